-- A line as that very part of a lent text.
use Rattle.std.specs.Prelude.{ℕ, suc, ◌+◌, ◌≡◌, Bool, true, false, List, [], ◌∷◌, eqb, if◌then◌else◌}
use Rattle.std.specs.Borrow.{Bor}
use Rattle.stab.specs.Text.{newline}
use Rattle.stab.specs.LineNumber.{Span, spanned}

-- how many bytes stand before the first byte 10
unfoldable pub line_length : List ℕ → ℕ
line_length [] = 0
line_length (x ∷ xs) = if eqb x newline then 0 else suc (line_length xs)

-- the text that is asked of: the proof's, or else the schema's
abbrev pub named : {A : Type 0} → Bool → A → A → A
named true schema proof = proof
named false schema proof = schema

-- the part's bytes are those of the span, and it lies in the text where the span starts
pub record PartOf (text part : Bor (List ℕ)) (s : Span) : Type 0 where
  pub bytes : part.now ≡ spanned text.now s
  pub block : part.ref_ptr.0 ≡ text.ref_ptr.0
  pub place : part.ref_ptr.1 ≡ s.start + text.ref_ptr.1
