use Rattle.std.proofs.Common.{◌≡◌, ℕ, ◌+◌, ◌*◌, ◌%◌, ◌^◌, ◌<◌, ◌≤◌, Bool, false, List, ℤ, length, take, refl, ◌∙◌, ap, arith, length-take}
use Rattle.std.proofs.Math.Pow.{pow_mono}
use Rattle.stab.specs.Formula.{row_at, tree}
use Rattle.stab.specs.Meaning.{value, truth}
use Rattle.stab.specs.Occurs.{occurring}
use Rattle.pairs.specs.Index.{unbiased}
use Rattle.pairs.proofs.Parts.{unbiased_zero}
use Rattle.pairs.proofs.Words.{one_shifted}
use Rattle.found.specs.Find.{among}
use Rattle.found.specs.Number.{numbered, least_below, least_or}
use Rattle.occurring.proofs.Keys.{keys_length}
use Rattle.assigned.specs.Words.{digit_of}
use Rattle.assigned.specs.Assignments.{keyed, values_from, Searchable}
use Rattle.assigned.proofs.Blocks.{words_digit}
use Rattle.assigned.proofs.Searches.{Least, least_at, keyed_truth, block_before, block_found, none_below}
use Rattle.assigned.proofs.first_number.Goals as goal

module _ {schema : List ℤ} {facts keys : List ℕ} {root n count : ℕ} (s : Searchable schema facts root n keys count) where
  -- the root is true at n in assignment number m
  abbrev holds : ℕ → Bool
  holds m = truth (among (numbered (occurring n (tree (row_at schema) root)) m)) n (tree (row_at schema) root)

  total_is : (1 * 2 ^ count) % 2 ^ 64 ≡ 2 ^ count
  total_is = one_shifted count (omega (arith, s.few))

  total_small : 2 ^ count ≤ 65536
  total_small = pow_mono {i = count} {j = 16} s.few

  held : count ≤ length keys
  held = omega (arith, length-take count keys, ap length s.listed, keys_length (occurring n (tree (row_at schema) root)), s.counted)

  -- the values by keys are those by pairs
  value_is : (m : ℕ) → value (keyed (take count keys) m) n (tree (row_at schema) root) (unbiased 65536) ≡ holds m
  unfolding truth
  value_is m =
      ap (value (keyed (take count keys) m) n (tree (row_at schema) root)) unbiased_zero
      ∙ ap (λ (ks : List ℕ). truth (keyed ks m) n (tree (row_at schema) root)) s.listed
      ∙ keyed_truth (row_at schema) facts root n s.passed s.width m

  -- a block is looked at
  module _ {m j : ℕ} {out : List ℕ} (before : (i : ℕ) → i < m → holds i ≡ false) (e : out ≡ values_from (take count keys) m n (tree (row_at schema) root) (unbiased 65536)) (f : j ≡ least_or (least_below (digit_of out) 4096) 4096) where
    digit_is : (i : ℕ) → i < 4096 → digit_of out i ≡ holds (m + i)
    unfolding values_from
    digit_is i l = ap (λ (o : List ℕ). digit_of o i) e ∙ words_digit _ 64 i (omega arith) ∙ value_is (m + i)

    least : Least (digit_of out) 4096 j
    least = least_at _ _ _ f

    none_before : (i : ℕ) → i < m + j → holds i ≡ false
    none_before = block_before holds (digit_of out) m 4096 j before digit_is least

    found : (total : ℕ) → j < 4096 → m + j < total → m + j ≡ least_or (least_below holds total) total
    found total = block_found holds (digit_of out) m 4096 j before digit_is least total

pub loop-m-init : goal.loop-m-init
loop-m-init c = record { blocks = refl; long = refl; none_before = λ i l. absurd (omega arith) }

pub formula_values-requires : goal.formula_values-requires
formula_values-requires c =
    let s = c.requires in (
      record {
        row = s.row;
        formed = s.passed.formed;
        width = s.width;
        few = s.few;
        held = held s;
        whole = omega (arith, c.loop-m.invariant.blocks);
        start = omega (arith, total_is s, total_small s);
      },
      s.passed.known,
      record { low = omega arith; high = omega arith },
      c.loop-m.invariant.long,
    )

pub returns-then-m-j : goal.returns-then-m-j
returns-then-m-j c =
    found c.requires c.loop-m.invariant.none_before c.formula_values.ensures c.first_digit-j.ensures _ c.if-j-lt4096.true (omega (arith, total_is c.requires))

pub returns-else-m-j : goal.returns-else-m-j
returns-else-m-j c =
    total_is c.requires ∙ none_below _ _ _ (none_before c.requires c.loop-m.invariant.none_before c.formula_values.ensures c.first_digit-j.ensures) (omega (arith, total_is c.requires))

pub loop-m-preserved : goal.loop-m-preserved
loop-m-preserved c = record {
  blocks = omega (arith, c.loop-m.invariant.blocks);
  long = c.formula_values.array_long;
  none_before = λ i l. none_before c.requires c.loop-m.invariant.none_before c.formula_values.ensures c.first_digit-j.ensures i (omega arith);
}

pub returns : goal.returns
returns c =
    total_is c.requires ∙ none_below _ _ _ c.loop-m.invariant.none_before (omega (arith, total_is c.requires))

pub returns-else-j-lt4096 : goal.returns-else-j-lt4096
returns-else-j-lt4096 c =
    total_is c.requires ∙ none_below _ _ _ (none_before c.requires c.loop-m.invariant.none_before c.formula_values.ensures c.first_digit-j.ensures) (omega (arith, total_is c.requires))
