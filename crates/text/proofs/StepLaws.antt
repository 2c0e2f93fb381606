-- The step of the line reader: the functions' parts of it, and what it keeps.
use Prim.Native.Nat.{ℕ, ◌+◌, ◌*◌, ◌-◌, ◌<◌, ◌≤◌}
use native.Mathlib.Omega.{arith}
use mathlib.Core.Path.{◌≡◌, refl, sym, ◌∙◌, ap, ap₂, subst}
use mathlib.Core.Logic.{◌⊎◌, inl, inr, ⊎_elim}
use mathlib.Core.Bool.{true, false, true≢false}
use mathlib.Core.List.{List, []}
use lib.Dec.{eqb, leb, ltb}
use lib.IntN.{ℤ, pos}
use lib.ListN.{length, drop, get_or, set, drop_of_length-le}
use lib.Seq.{sets, length-sets, drop-cons}
use borrow.Author.Tests.{eqb-true, eqb-false, eq-eqb, ne_eqb, leb-true, leb-false, le-leb, lt-leb, ltb-true, ltb-false, lt-ltb, le-ltb}
use Rattle.stab.specs.Basic.{◌or◌}
use Rattle.stab.specs.Text.{node_heading, is_digit}
use Rattle.stab.specs.Read.{node_numbers}
use Rattle.stab.proofs.Bools.{and_second_false, or_left, or_right, or_false, if_true, if_false, decide}
use Rattle.numerals.specs.Here.{row, first_numbers, number_here, field_end}
use Rattle.numerals.proofs.Lines.{row_none, row_numbers, first_other}
use Rattle.text.specs.Rows.{wanted, row_found, row_into}
use Rattle.text.specs.Nodes.{node_found, set_into}
use Rattle.text.specs.Awaiting.{Ready, goes_on}
use Rattle.text.specs.OneLine.{headed, row_by, formula_by, node_by, node_line_by, nodes_by, Stand, stand, step, Stepped}
use Rattle.text.specs.declared.nodes.NodeFound.{NodeFound}
use Rattle.text.specs.declared.nodes.NodeFound.TheVariants.{At, Nothing}
use Rattle.text.specs.declared.awaited.Taken.{Taken}
use Rattle.text.specs.declared.awaited.Awaited.{Awaited}
use Rattle.text.specs.declared.awaited.Awaited.TheVariants.{Row, Pair, Formula, Node, SchemaHeading, SchemaValues, RowHeading, ModelHeading, ModelValue, PairHeading, ProofHeading, Schema, Model, Proof, NoHeading, BadLine, TooMany}
use Rattle.text.proofs.RowLaws.{into_none, into_over, first_over}
use Rattle.text.proofs.NodeLaws.{NodeRead, NodeOf, node_is, node_of, few_set, row_sets}
use Rattle.text.proofs.TakenLaws.{Moved, taken_as, formula_missing, formula_heading, formula_row, nodes_over, node_refused, node_many, member_many, node_next}
use Rattle.text.proofs.OnceLaws.{schema_heading_lem, schema_values, row_heading_lem, schema_row, model_heading_lem, model_value, pair_heading_lem, model_pair, proof_heading, over_stays}

pub stand_same : (t : List ℤ) {a b : Taken} {u u' m m' : List ℤ} → a ≡ b → u ≡ u' → m ≡ m' → stand a t u m ≡ stand b t u' m'
stand_same t {b = b} {u' = u'} {m = m} p q r = ap₂ (λ (x : Taken) (w : List ℤ). stand x t w m) p q ∙ ap (stand b t u') r

-- ---- a formula row, or the second heading

-- a line that starts with `u` starts with no number
pub first_letter : (text : List ℕ) (at : ℕ) → at < length text → get_or text at 256 ≡ 117 → first_numbers (drop at text) ≡ []
unfolding is_digit
first_letter text at l e =
    ap first_numbers (drop-cons text at 256 l)
    ∙ first_other (get_or text at 256) _ (and_second_false (leb 48 (get_or text at 256)) _ (lt-leb (get_or text at 256) 57 (omega arith))) (λ q. omega arith)

module _ (text : List ℕ) (at n : ℕ) where
  pub formula_end : length text ≤ at → record { next = at; got = NoHeading (2 + n) } ≡ formula_by text at n
  unfolding formula_by
  formula_end l = sym (if_true (leb (length text) at) _ _ (le-leb (length text) at l))

  module _ (l : at < length text) where
    pub formula_u : get_or text at 256 ≡ 117 → formula_by text at n ≡ headed node_heading text at (2 + n) (Node n 0 0)
    unfolding formula_by
    formula_u e = if_false (leb (length text) at) _ _ (lt-leb (length text) at l) ∙ if_true (eqb (get_or text at 256) 117) _ _ (eq-eqb _ 117 e)

    pub formula_other : (get_or text at 256 ≡ 117 → ⊥) → formula_by text at n ≡ row_by at n 1024 (2 + n) (Formula (n + 1)) (row_found text at 4)
    unfolding formula_by
    formula_other e = if_false (leb (length text) at) _ _ (lt-leb (length text) at l) ∙ if_false (eqb (get_or text at 256) 117) _ _ (ne_eqb _ 117 e)

-- ---- a node row

module _ (text : List ℕ) (at j k : ℕ) where
  node_over : length text ≤ at → Nothing ≡ node_found text at k
  unfolding wanted
  node_over l =
      node_is text at [] 0 [] k [] [] Nothing
      (ap (λ (xs : List ℕ). wanted (leb 7) (row xs)) (drop_of_length-le text l) ∙ ap (wanted (leb 7)) (row_none [] (unfold number_here field_end in refl)))

  pub nodes_end : (u : List ℤ) → length text ≤ at → u ≡ nodes_by text at j k u (node_found text at k)
  unfolding nodes_by
  nodes_end u l = into_over text at 7 (9 * j) u l ∙ ap (nodes_by text at j k u) (node_over l)

  pub set_end_lem : (m : List ℤ) → length text ≤ at → m ≡ set_into text at k m
  set_end_lem m l = few_set text at k m (omega (arith, ap length (first_over text at l)))

  -- the row of nine numbers
  pub nine : (u m u' m' : List ℤ) (next last : ℕ) → NodeRead text at u (9 * j) m k u' m' next last
      → set (set u' (9 * j + 7) (pos k)) (9 * j + 7 + 1) (pos (last - k)) ≡ sets u (9 * j) (node_numbers (first_numbers (drop at text)) k)
  unfolding node_numbers
  nine u m u' m' next last x =
      let size : last - k ≡ length x.vs - 7 = omega (arith, x.count) in
      ap₂ (λ (w : List ℤ) (s : ℕ). set (set w (9 * j + 7) (pos k)) (9 * j + 7 + 1) (pos s)) x.nodes size
      ∙ row_sets u (9 * j) k (length x.vs - 7) x.vs x.many
      ∙ ap (λ (vs : List ℤ). sets u (9 * j) (node_numbers vs k)) (sym (row_numbers (drop at text) x.vs x.numbers))

  module _ (n : ℕ) where
    pub node_end : length text ≤ at → record { next = at; got = Proof n j k } ≡ node_line_by text at n j k
    unfolding node_line_by
    node_end l = sym (if_true (leb (length text) at) _ _ (le-leb (length text) at l))

    pub node_line_lem : at < length text → (f : NodeFound) → f ≡ node_found text at k → node_by at n j f ≡ node_line_by text at n j k
    unfolding node_line_by
    node_line_lem l f e = ap (node_by at n j) e ∙ sym (if_false (leb (length text) at) _ _ (lt-leb (length text) at l))

    -- what was found, and is refused or stored
    module _ (u : List ℤ) where
      pub node_none : (record { next = at; got = BadLine (3 + n + j) } ≡ node_by at n j Nothing) × (row_into text at 7 (9 * j) u ≡ nodes_by text at j k u Nothing)
      unfolding node_by nodes_by
      node_none = (refl, refl)

      module _ (next last : ℕ) where
        pub node_full : (j ≡ 1024) ⊎ (8192 < last) → (record { next = at; got = TooMany (3 + n + j) } ≡ node_by at n j (At next last)) × (row_into text at 7 (9 * j) u ≡ nodes_by text at j k u (At next last))
        unfolding node_by nodes_by
        node_full h =
            let e : (eqb j 1024 or ltb 8192 last) ≡ true = ⊎_elim (λ q. or_left _ _ (eq-eqb j 1024 q)) (λ q. or_right (eqb j 1024) _ (lt-ltb 8192 last q)) h in
            (sym (if_true (eqb j 1024 or ltb 8192 last) _ _ e), sym (if_true (eqb j 1024 or ltb 8192 last) _ _ e))

        pub node_more : (j ≡ 1024 → ⊥) → last ≤ 8192
            → (record { next = next; got = Node n (j + 1) last } ≡ node_by at n j (At next last)) × (sets u (9 * j) (node_numbers (first_numbers (drop at text)) k) ≡ nodes_by text at j k u (At next last))
        unfolding node_by nodes_by
        node_more p q =
            let e : (eqb j 1024 or ltb 8192 last) ≡ false = or_false _ _ (ne_eqb j 1024 p) (le-ltb 8192 last q) in
            (sym (if_false (eqb j 1024 or ltb 8192 last) _ _ e), sym (if_false (eqb j 1024 or ltb 8192 last) _ _ e))

-- ---- the step keeps what all the lines come to

module _ (text : List ℕ) (at : ℕ) (t u m : List ℤ) where
  abbrev MovedTo : Awaited → Stand → Type 0
  MovedTo p s = Moved text at p t u m s.taken.next s.taken.got s.table s.nodes s.members

  formula_moved : (n : ℕ) → Ready text at (Formula n) t u m → MovedTo (Formula n) (stand (formula_by text at n) (row_into text at 4 (4 * n) t) u m)
  formula_moved n r = ⊎_elim end line (decide (leb (length text) at))
    where
      as_it_was : first_numbers (drop at text) ≡ [] → Moved text at (Formula n) t u m (formula_by text at n).next (formula_by text at n).got t u m
          → MovedTo (Formula n) (stand (formula_by text at n) (row_into text at 4 (4 * n) t) u m)
      as_it_was h x = subst (λ (c : List ℤ). MovedTo (Formula n) (stand (formula_by text at n) c u m)) (into_none text at 4 (4 * n) t h) x

      end : leb (length text) at ≡ true → MovedTo (Formula n) (stand (formula_by text at n) (row_into text at 4 (4 * n) t) u m)
      end i =
          let l = leb-true (length text) at i in
          as_it_was (first_over text at l) (taken_as text at (Formula n) t u m t u m (formula_by text at n) _ (sym (formula_end text at n l)) (formula_missing text at n t u m r l))

      line : leb (length text) at ≡ false → MovedTo (Formula n) (stand (formula_by text at n) (row_into text at 4 (4 * n) t) u m)
      line i =
          let l = leb-false (length text) at i in
          ⊎_elim
          (λ q. let e = eqb-true (get_or text at 256) 117 q in
          as_it_was (first_letter text at l e) (formula_heading text at n t u m r l e (formula_by text at n) (formula_u text at n l e)))
          (λ q. let e = eqb-false (get_or text at 256) 117 q in
          formula_row text at n t u m r l e (formula_by text at n) (formula_other text at n l e))
          (decide (eqb (get_or text at 256) 117))

  module _ (n j k : ℕ) (r : Ready text at (Node n j k) t u m) where
    abbrev m' : List ℤ
    m' = set_into text at k m

    set_length : length m' ≡ length m
    unfolding set_into
    set_length = length-sets m k (drop 7 (first_numbers (drop at text)))

    abbrev u' : List ℤ
    u' = row_into text at 7 (9 * j) u

    abbrev NodeGives : NodeFound → Type 0
    NodeGives f = MovedTo (Node n j k) (stand (node_by at n j f) t (nodes_by text at j k u f) m')

    -- a node's place and row, as they are found
    gives : (f : NodeFound) (a : Taken) (c : List ℤ) → (a ≡ node_by at n j f) × (c ≡ nodes_by text at j k u f) → Moved text at (Node n j k) t u m a.next a.got t c m' → NodeGives f
    gives f a c e x = subst (MovedTo (Node n j k)) (ap₂ (λ (b : Taken) (w : List ℤ). stand b t w m') e.0 e.1) x

    node_gives : at < length text → (f : NodeFound) → NodeOf text at u (9 * j) m k u' m' f → NodeGives f
    node_gives l Nothing x = gives Nothing _ u' (node_none text at j k n u) (node_refused text at n j k t u m r l u' m' x)
    node_gives l (At next last) x =
        ⊎_elim
        (λ q. let e = eqb-true j 1024 q in
        gives (At next last) _ u' (node_full text at j k n u next last (inl e)) (node_many text at n j k t u m r l u' m' next last x e))
        (λ q. ⊎_elim
        (λ q'. let e = ltb-true 8192 last q' in
        gives (At next last) _ u' (node_full text at j k n u next last (inr e)) (member_many text at n j k t u m r l u' m' next last x e))
        (λ q'. let e = ltb-false 8192 last q' in
        let d = eqb-false j 1024 q in
        let row9 = sets u (9 * j) (node_numbers (first_numbers (drop at text)) k) in
        gives (At next last) _ row9 (node_more text at j k n u next last d e)
        (node_next text at n j k t u m r l u' m' next last x row9 (length-sets u (9 * j) (node_numbers (first_numbers (drop at text)) k)) set_length d e (sym (nine text at j k u m u' m' next last x))))
        (decide (ltb 8192 last)))
        (decide (eqb j 1024))

    node_moved : MovedTo (Node n j k) (stand (node_line_by text at n j k) t (nodes_by text at j k u (node_found text at k)) m')
    node_moved = ⊎_elim end line (decide (leb (length text) at))
      where
        end : leb (length text) at ≡ true → MovedTo (Node n j k) (stand (node_line_by text at n j k) t (nodes_by text at j k u (node_found text at k)) m')
        end i =
            let l = leb-true (length text) at i in
            subst (MovedTo (Node n j k))
            (stand_same t (node_end text at j k n l) (nodes_end text at j k u l) (set_end_lem text at j k m l))
            (nodes_over text at n j k t u m r l)

        line : leb (length text) at ≡ false → MovedTo (Node n j k) (stand (node_line_by text at n j k) t (nodes_by text at j k u (node_found text at k)) m')
        line i =
            let l = leb-false (length text) at i in
            subst (λ (a : Taken). MovedTo (Node n j k) (stand a t (nodes_by text at j k u (node_found text at k)) m')) (node_line_lem text at j k n l (node_found text at k) refl)
            (node_gives l (node_found text at k) (node_of text at u (9 * j) m k))

  pub step_moved : (p : Awaited) → Ready text at p t u m → MovedTo p (step text at p t u m)
  unfolding step
  step_moved (Row n) r = schema_row text at t u m n r _ refl
  step_moved (Pair k) r = model_pair text at t u m k r _ refl
  step_moved (Formula n) r = formula_moved n r
  step_moved (Node n j k) r = node_moved n j k r
  step_moved SchemaHeading r = schema_heading_lem text at t u m r _ refl
  step_moved SchemaValues r = schema_values text at t u m r _ refl
  step_moved RowHeading r = row_heading_lem text at t u m r _ refl
  step_moved ModelHeading r = model_heading_lem text at t u m r _ refl
  step_moved ModelValue r = model_value text at t u m r _ refl
  step_moved PairHeading r = pair_heading_lem text at t u m r _ refl
  step_moved ProofHeading r = proof_heading text at t u m r _ refl
  step_moved (Schema n) r = over_stays text at t u m (Schema n) r refl
  step_moved (Model k) r = over_stays text at t u m (Model k) r refl
  step_moved (Proof n j k) r = over_stays text at t u m (Proof n j k) r refl
  step_moved (NoHeading k) r = over_stays text at t u m (NoHeading k) r refl
  step_moved (BadLine k) r = over_stays text at t u m (BadLine k) r refl
  step_moved (TooMany k) r = over_stays text at t u m (TooMany k) r refl

  pub stepped_moved : (p : Awaited) (a : Taken) (t₁ u₁ m₁ : List ℤ) → Ready text at p t u m → Stepped text at p t u m a t₁ u₁ m₁ → Moved text at p t u m a.next a.got t₁ u₁ m₁
  stepped_moved p a t₁ u₁ m₁ r e = subst (MovedTo p) (sym e) (step_moved p r)

  -- ---- where nothing is awaited, the step changes nothing

  pub over_steps : (p : Awaited) → goes_on p ≡ false → Stepped text at p t u m (record { next = at; got = p }) t u m
  unfolding step
  over_steps (Row n) e = absurd (true≢false e)
  over_steps (Pair k) e = absurd (true≢false e)
  over_steps (Formula n) e = absurd (true≢false e)
  over_steps (Node n j k) e = absurd (true≢false e)
  over_steps SchemaHeading e = absurd (true≢false e)
  over_steps SchemaValues e = absurd (true≢false e)
  over_steps RowHeading e = absurd (true≢false e)
  over_steps ModelHeading e = absurd (true≢false e)
  over_steps ModelValue e = absurd (true≢false e)
  over_steps PairHeading e = absurd (true≢false e)
  over_steps ProofHeading e = absurd (true≢false e)
  over_steps (Schema n) e = refl
  over_steps (Model k) e = refl
  over_steps (Proof n j k) e = refl
  over_steps (NoHeading k) e = refl
  over_steps (BadLine k) e = refl
  over_steps (TooMany k) e = refl
