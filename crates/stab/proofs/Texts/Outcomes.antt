-- Whole texts: what reading and writing have passed where they come to something, and what lent memory then holds.
use Prim.Native.Nat.{ℕ, ◌*◌, ◌-◌, ◌≤◌}
use native.Mathlib.Omega.{arith}
use mathlib.Core.Path.{◌≡◌, refl, sym, ◌∙◌, ap}
use mathlib.Core.Bool.{Bool, true}
use mathlib.Core.List.{List, [], ◌++◌}
use lib.Dec.{leb}
use lib.IntN.{ℤ, pos}
use lib.ListN.{length, replicate, length-append}
use lib.Seq.{take_at}
use borrow.Author.Tests.{leb-true, le-leb}
use Rattle.stab.specs.Basic.{◌and◌, all_of}
use Rattle.stab.specs.Text.{Line, lines, five_digits, text_limit, padded}
use Rattle.stab.specs.Read.{Reading, read, stopped, require, read_text, table_of}
use Rattle.stab.specs.Check.{holds, whole_unless}
use Rattle.stab.specs.Write.{wrote, writing, writing_of, write_refusal, output_refusal, rows_writable}
use Rattle.std.specs.Prelude.{Ok, Err}
use Rattle.stab.specs.Finding.{Finding, no_refusal}
use Rattle.stab.specs.declared.Refusal.{Refusal}
use Rattle.stab.specs.declared.Refusal.TheVariants.{TextTooLong, TableTooShort}
use Rattle.stab.proofs.Bools.{and_left, and_right, and_both, unless_nothing, nothing_unless, otherwise_first, otherwise_second, otherwise_nothing}
use Rattle.stab.proofs.Texts.Rows.{require_true, require_read}

-- ---- reading

-- what a text has passed that was read
pub record Passed {A : Type 0} (full : Bool) (reader : List Line → Reading A) (text : List ℕ) (a : A) : Type 0 where
  pub short : length text ≤ 65536
  pub lent : full ≡ true
  pub gives : reader (lines text) ≡ read a

pub passed : {A : Type 0} (full : Bool) (reader : List Line → Reading A) (text : List ℕ) (a : A) → read_text full reader text ≡ read a → Passed full reader text a
unfolding read_text text_limit
passed full reader text a h =
    let b = require_read (leb (length text) 65536) TextTooLong 0 (require full TableTooShort 0 (reader (lines text))) a h in
    let c = require_read full TableTooShort 0 (reader (lines text)) a b.1 in
    record { short = leb-true (length text) 65536 b.0; lent = c.0; gives = c.1 }

pub read_text_lem : {A : Type 0} (full : Bool) (reader : List Line → Reading A) (text : List ℕ) → length text ≤ 65536 → full ≡ true → read_text full reader text ≡ reader (lines text)
unfolding read_text text_limit
read_text_lem full reader text short lent =
    require_true (leb (length text) 65536) TextTooLong 0 _ (le-leb (length text) 65536 short) ∙ require_true full TableTooShort 0 _ lent

-- ---- writing

-- what a text has passed that was written
pub record Written (held few writable : Bool) (n : ℕ) (text out : List ℕ) : Type 0 where
  pub holding : held ≡ true
  pub counted : few ≡ true
  pub digits : writable ≡ true
  pub same : text ≡ out
  pub fits : length text ≤ n
  pub short : length text ≤ 65536

written_nothing : (x : Finding) (text out : List ℕ) → writing_of x text ≡ wrote out → (x ≡ no_refusal) × (text ≡ out)
unfolding writing_of
written_nothing (Ok u) text out h = (refl, cc)
written_nothing (Err r) text out h = (cc, cc)

pub written : (held few writable : Bool) (n : ℕ) (text out : List ℕ)
    → writing (write_refusal held few writable) n text ≡ wrote out → Written held few writable n text out
unfolding writing write_refusal output_refusal whole_unless text_limit
written held few writable n text out h =
    let a = written_nothing _ text out h in
    let b = otherwise_first _ _ a.0 in
    let c = otherwise_second _ _ b in
    let d = unless_nothing (leb (length text) n and leb (length text) 65536) _ _ (otherwise_second _ _ a.0) in
    record {
      holding = unless_nothing held _ _ (otherwise_first _ _ b);
      counted = unless_nothing few _ _ (otherwise_first _ _ c);
      digits = unless_nothing writable _ _ (otherwise_second _ _ c);
      same = a.1;
      fits = leb-true (length text) n (and_left _ _ d);
      short = leb-true (length text) 65536 (and_right (leb (length text) n) _ d);
    }

pub write_text : (held few writable : Bool) (n : ℕ) (text out : List ℕ) → Written held few writable n text out
    → writing (write_refusal held few writable) n text ≡ wrote out
unfolding writing writing_of write_refusal output_refusal whole_unless text_limit
write_text held few writable n text out w =
    let nothing_left =
    otherwise_nothing _ _ (nothing_unless held _ _ w.holding) ∙ otherwise_nothing _ _ (nothing_unless few _ _ w.counted) ∙ nothing_unless writable _ _ w.digits in
    ap (λ (x : Finding). writing_of x text)
    (otherwise_nothing _ _ nothing_left
    ∙ nothing_unless _ _ _ (and_both _ _ (le-leb (length text) n w.fits) (le-leb (length text) 65536 w.short)))
    ∙ ap wrote w.same

-- rows that were read can be written, whatever stands behind them in the table
pub rows_held_lem : (w r : ℕ) (t more : List ℤ) → w * r ≡ length t → holds (t ++ more) w r ≡ true
unfolding holds
rows_held_lem w r t more e = le-leb (w * r) (length (t ++ more)) (omega (arith, length-append t more))

pub rows_writable_lem : (w r : ℕ) (t more : List ℤ) → w * r ≡ length t → all_of five_digits t ≡ true → rows_writable w r (t ++ more) ≡ true
unfolding rows_writable
rows_writable_lem w r t more e h = ap (all_of five_digits) (take_at t more (w * r) (sym e)) ∙ h

-- ---- lent memory

pub padded_none : {A : Type 0} (z : A) (n : ℕ) → padded z n [] ≡ replicate n z
unfolding padded
padded_none z n = let e : n - 0 ≡ n = omega arith in ap (λ (i : ℕ). replicate i z) e

pub table_stopped : {A : Type 0} (part : A → List ℤ) (n : ℕ) (r : Reading A) (why : Refusal) (k : ℕ) → r ≡ stopped why k → table_of part n r ≡ replicate n (pos 0)
unfolding table_of
table_stopped part n r why k h = ap (table_of part n) h ∙ padded_none (pos 0) n

pub table_read : {A : Type 0} (part : A → List ℤ) (n : ℕ) (r : Reading A) (a : A) → r ≡ read a → table_of part n r ≡ part a ++ replicate (n - length (part a)) (pos 0)
unfolding table_of padded
table_read part n r a h = ap (table_of part n) h
