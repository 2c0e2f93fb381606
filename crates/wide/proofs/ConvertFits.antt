-- What the converter answers fits into the one number and the lent results.
use Prim.Native.Nat.{◌≤◌}
use native.Mathlib.Omega.{arith}
use mathlib.Core.Path.{◌≡◌, refl}
use Rattle.stab.specs.Formula.{Schema, row_at}
use Rattle.stab.specs.declared.Refusal.TheVariants.{TooMany, Plain}
use Rattle.stab.proofs.Tests.{le_tests, whole_clears}
use Rattle.stab.proofs.Exactness.Refusals.{FindsNear, of_whole, of_at, ◌or_else◌, once, of_scan}
use Rattle.stab.proofs.Packed.{near_packs}
use Rattle.stab.specs.Entry.{SchemaFits}
use Rattle.std.specs.Prelude.{Ok, Err}
use Rattle.stab.specs.Finding.{Finding}
use Rattle.wide.specs.Convert.{WideSchema, plain_count, wide_row_refusal, wide_refusal, plain_refusal, convert_refusal, converted_by, converted}
use Rattle.wide.proofs.Conversion.{convert_clears}

of_wide : (S : Schema) → S.rows ≤ 4096 → FindsNear (wide_refusal S)
unfolding wide_refusal wide_row_refusal
of_wide S l =
    of_whole _ _ or_else
    of_scan (wide_row_refusal (row_at S.table)) S.rows l (λ r k. of_at _ _ r k or_else of_at _ _ r k) or_else
    of_whole _ _

of_plain : (W : WideSchema) → FindsNear (plain_refusal W)
unfolding plain_refusal
of_plain W =
    once (of_whole _ Plain)
    (λ h. of_scan _ (plain_count W) (omega (arith, (whole_clears Plain (le_tests (plain_count W) 1024)).0 h)) (λ r k. of_whole _ _))

-- what is found is a refusal, and its place is within the limits
pub convert_finds : (W : WideSchema) → FindsNear (convert_refusal W)
unfolding convert_refusal
convert_finds W =
    of_at _ _ 0 (omega arith) or_else
    of_whole _ _ or_else
    once (of_whole _ TooMany)
    (λ h.
    of_wide W.schema (omega (arith, (whole_clears TooMany (le_tests W.schema.rows 1024)).0 h)) or_else
    of_plain W)

-- at most 1,024 rows, or a refusal that packs
pub converted_fits : (W : WideSchema) → SchemaFits (converted W)
unfolding converted converted_by
converted_fits W = go (convert_refusal W) refl
  where
    go : (x : Finding) → convert_refusal W ≡ x → SchemaFits (converted_by x W)
    go (Ok u) e = ((convert_clears W).0 e).plain_rules.limit
    go (Err r) e =
        near_packs r.why r.place (convert_finds W r.why r.place e)
