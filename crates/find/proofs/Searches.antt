-- The laws of the search's parts.
use Prim.Native.Nat.{ℕ, ◌*◌, ◌≤◌}
use native.Mathlib.Omega.{arith}
use mathlib.Core.Path.{◌≡◌, sym, ◌∙◌, ap}
use mathlib.Core.Bool.{Bool, true, false}
use mathlib.Core.List.{List}
use lib.Dec.{leb}
use lib.IntN.{ℤ, pos}
use lib.Signed.{le_z}
use lib.ListN.{length}
use Rattle.stab.specs.Basic.{◌and◌, ◌otherwise◌}
use Rattle.stab.specs.Formula.{row_at}
use Rattle.stab.specs.Check.{whole_unless, at_unless, holds, schema_refusal}
use Rattle.std.specs.Prelude.{Some}
use Rattle.stab.specs.Finding.{no_refusal, refuse, Finding}
use Rattle.stab.specs.declared.Refusal.{Refusal}
use Rattle.stab.specs.declared.Refusal.TheVariants.{TableTooShort, TooMany, Width}
use Rattle.stab.proofs.Bools.{nothing_unless, found_unless, unless_nothing, otherwise_first, otherwise_second, otherwise_nothing, otherwise_found}
use Rattle.stab.proofs.Findings.{otherwise_assoc}
use Rattle.stab.proofs.Tests.{◌clears◌, ◌then◌, le_tests, at_clears, whole_clears}
use Rattle.formula.specs.Rows.{Passed}
use Rattle.model.proofs.Passes.{passed_root, n_small}
use Rattle.occurring.proofs.Holds.{passed_less}
use Rattle.found.specs.Find.{Query, find_refusal}
use Rattle.find.specs.Search.{tables_refusal, query_refusal, wires_refusal, Ready}

-- ---- refusals

module _ (ok : Bool) (why : Refusal) (k : ℕ) (rest : Finding) where
  pub at_here : ok ≡ false → (refuse why (Some k)) ≡ (at_unless ok why k otherwise rest)
  unfolding at_unless
  at_here h = sym (otherwise_found (at_unless ok why k) rest (found_unless ok _ _ h))

  pub at_later : (x : Finding) → ok ≡ true → x ≡ rest → x ≡ (at_unless ok why k otherwise rest)
  unfolding at_unless
  at_later x h e = e ∙ sym (otherwise_nothing (at_unless ok why k) rest (nothing_unless ok _ _ h))

pub tables_clear : (room : ℕ) (schema : List ℤ) (s : ℕ) → tables_refusal room schema s clears ((8192 ≤ room) × ((4 * s ≤ length schema) × (s ≤ 1024)))
unfolding tables_refusal holds
tables_clear room schema s =
    at_clears TableTooShort 0 (le_tests 8192 room) then
    (whole_clears TableTooShort (le_tests (4 * s) (length schema)) then whole_clears TooMany (le_tests s 1024))

-- the refusals in their parts
pub find_is : (Q : Query) → find_refusal Q ≡ (query_refusal Q otherwise wires_refusal Q)
unfolding find_refusal query_refusal tables_refusal wires_refusal
find_is Q =
    let a = at_unless (leb 8192 Q.room) TableTooShort 0 in
    let b = whole_unless (holds Q.schema.table 4 Q.schema.rows) TableTooShort in
    let c = whole_unless (leb Q.schema.rows 1024) TooMany in
    let f = schema_refusal Q.schema in
    let w = whole_unless (le_z Q.schema.least Q.n and le_z Q.n (pos 9999)) Width in
    let x = wires_refusal Q in
    sym
    (otherwise_assoc (a otherwise (b otherwise c)) (f otherwise w) x
    ∙ ap (λ (y : Finding). (a otherwise (b otherwise c)) otherwise y) (otherwise_assoc f w x)
    ∙ otherwise_assoc a (b otherwise c) _
    ∙ ap (λ (y : Finding). a otherwise y) (otherwise_assoc b c _))

-- ---- what holds of a query that has passed

module _ (Q : Query) (h : query_refusal Q ≡ no_refusal) where
  tables_none : tables_refusal Q.room Q.schema.table Q.schema.rows ≡ no_refusal
  unfolding query_refusal
  tables_none = otherwise_first _ _ h

  formulas_none : schema_refusal Q.schema ≡ no_refusal
  unfolding query_refusal
  formulas_none = otherwise_first _ _ (otherwise_second (tables_refusal Q.room Q.schema.table Q.schema.rows) _ h)

  width_in : (le_z Q.schema.least Q.n and le_z Q.n (pos 9999)) ≡ true
  unfolding query_refusal whole_unless
  width_in =
      unless_nothing _ _ _
      (otherwise_second (schema_refusal Q.schema) _
      (otherwise_second (tables_refusal Q.room Q.schema.table Q.schema.rows) _ h))

  pub query_ready : (facts : List ℕ) → Passed (row_at Q.schema.table) facts Q.schema.rows → Ready Q facts
  query_ready facts p =
      let tables = (tables_clear Q.room Q.schema.table Q.schema.rows).0 tables_none in
      let root = passed_root Q.schema formulas_none in
      record {
        row = omega (arith, root, tables.1.1);
        passed = passed_less (row_at Q.schema.table) facts _ Q.schema.rows (omega (arith, root)) p;
        width = n_small Q.schema.least Q.n width_in;
        room = tables.0;
      }
