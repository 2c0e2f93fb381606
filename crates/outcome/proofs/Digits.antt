-- The numbers that stand in front of a text have at most five digits, so they are numbers of 32 bits.
use Prim.Native.Nat.{ℕ, suc, ◌/◌}
use native.Mathlib.Omega.{arith}
use mathlib.Core.Path.{◌≡◌, refl, sym, ap, subst}
use mathlib.Core.Bool.{true}
use mathlib.Core.List.{List}
use lib.Dec.{leb}
use lib.IntN.{ℤ, pos, negsuc}
use mir.Syntax.{w32}
use mir.Val.{of_z, to_z}
use borrow.Author.Tests.{leb-true}
use lib.ListN.{length}
use Rattle.stab.specs.declared.ModelHeader.{ModelHeader}
use Rattle.stab.specs.Text.{five_digits, lines}
use Rattle.stab.specs.Read.{Reading, read, stopped, ModelText, read_model, read_model_lines, model_answer}
use Rattle.std.specs.Prelude.{Ok}
use Rattle.stab.proofs.Texts.Kinds.{model_lines_are}
use Rattle.stab.proofs.Texts.Outcomes.{passed}
use Rattle.signed.proofs.Signs.{read_back}

digits_back : (z : ℤ) → five_digits z ≡ true → to_z w32 (of_z w32 z) ≡ z
unfolding five_digits
digits_back (pos v) h = read_back (pos v) (omega (arith, leb-true v 99999 h))
digits_back (negsuc v) h = read_back (negsuc v) (omega (arith, leb-true (suc v) 99999 h))

-- the n that reading a model answers
pub model_back : (text : List ℕ) (g : ModelHeader) → Ok g ≡ model_answer (read_model 8192 text) → to_z w32 (of_z w32 g.n) ≡ g.n
model_back text g e = go (read_model 8192 text) refl e
  where
    go : (r : Reading ModelText) → read_model 8192 text ≡ r → Ok g ≡ model_answer r → to_z w32 (of_z w32 g.n) ≡ g.n
    go (read m) h a = unfold model_answer read_model in
        let d = (model_lines_are (lines text) m (passed (leb 8192 8192) read_model_lines text m h).gives).first in
        let k : g ≡ record { n = m.n; pairs = length m.table / 2 } = cc in
        let en : m.n ≡ g.n = sym (ap (λ (x : ModelHeader). x.n) k) in
        digits_back g.n (subst (λ (z : ℤ). five_digits z ≡ true) en d)
    go (stopped why k) h a = unfold model_answer in cc
