-- What a line comes to.
use Prim.Native.Nat.{ℕ, suc, ◌+◌, ◌*◌, ◌-◌, ◌<◌, ◌≤◌}
use native.Mathlib.Omega.{arith}
use native.Mathlib.Nat.{add-zero}
use mathlib.Core.Path.{◌≡◌, refl, sym, ◌∙◌, ap, subst}
use mathlib.Core.Logic.{⊎_elim}
use mathlib.Core.Bool.{Bool, true, false, true≢false}
use mathlib.Core.List.{List, []}
use mathlib.Core.Option.{none}
use lib.Dec.{eqb, leb}
use lib.IntN.{ℤ, pos}
use lib.ListN.{length, take, drop, get_or, set}
use borrow.Author.Tests.{eqb-true, eq-eqb, leb-true, leb-false}
use Rattle.stab.specs.Text.{Line, lines, node_heading, lacks}
use Rattle.stab.specs.Read.{Reading, read, stopped, ◌and_then◌, heading_at, nodes_from}
use Rattle.stab.specs.declared.Refusal.{Refusal}
use Rattle.stab.specs.declared.Refusal.TheVariants.{Heading as HeadingRefused, Line as LineRefused, TooMany as TooManyRefused}
use Rattle.stab.proofs.Bools.{and_right, if_true, if_false, decide}
use Rattle.stab.proofs.Texts.Rows.{then_is}
use Rattle.stab.proofs.Texts.Numbers.{same_bytes_true}
use Rattle.numerals.specs.Here.{first_line, row}
use Rattle.text.specs.Rows.{wanted, RowEnded, past_line, row_found, row_into}
use Rattle.numerals.specs.Headings.{is_heading, after_heading}
use Rattle.text.specs.Nodes.{nodes_ahead}
use Rattle.text.specs.Awaiting.{Whole, rest, goes_on, left_if, left, Room, Ready, as_proof, proof_with}
use Rattle.text.specs.OneLine.{headed, row_by, listed_by}
use Rattle.text.specs.declared.rows.Found.{Found}
use Rattle.text.specs.declared.rows.Found.TheVariants.{At, Nothing}
use Rattle.text.specs.declared.awaited.Taken.{Taken}
use Rattle.text.specs.declared.awaited.Awaited.{Awaited}
use Rattle.text.specs.declared.awaited.Awaited.TheVariants.{Formula, Node, Proof, NoHeading, BadLine, TooMany}
use Rattle.text.proofs.RowLaws.{RowOf, row_of, into_length, into_over, then_stops, rows_so_far, rows_done, rows_stop, rows_full, rows_next}
use Rattle.text.proofs.ProofLaws.{with_nodes, proof_so_far, formulas_stop, formulas_full, formulas_next, formulas_missing, formulas_heading}
use Rattle.text.proofs.NodeLaws.{NodeRead, nodes_so_far, nodes_ahead_none, nodes_done, nodes_stop, nodes_too_many, members_too_many, nodes_next}
use Rattle.numerals.proofs.Headings.{heading_stops, heading_reads, heading_inside}
use Rattle.text.proofs.Openings.{then_then}
use Rattle.stab.proofs.Texts.ProofRows.{node_heading_lacks}

-- A line was read: all the lines come to the same as before, and fewer are left.
pub record Moved (text : List ℕ) (at : ℕ) (p : Awaited) (t u m : List ℤ) (at' : ℕ) (p' : Awaited) (t' u' m' : List ℤ) : Type 0 where
  pub ready : Ready text at' p' t' u' m'
  pub same : rest p t u m (lines (drop at text)) ≡ rest p' t' u' m' (lines (drop at' text))
  pub less : goes_on p ≡ true → left text at' p' < left text at p

-- ---- a line that ends the reading, and one after which it goes on

module _ (text : List ℕ) (at : ℕ) (p : Awaited) (t u m : List ℤ) (r : Ready text at p t u m) (q : Awaited) (t' u' m' : List ℤ) (room : Room q (length t') (length u') (length m')) where
  pub stays : goes_on q ≡ false → rest p t u m (lines (drop at text)) ≡ rest q t' u' m' (lines (drop at text)) → Moved text at p t u m at q t' u' m'
  stays over e = record {
    ready = record { within = r.within; short = r.short; room = room };
    same = e;
    less = λ on. subst (λ (b : Bool). left_if (goes_on q) (length text - at) < left_if b (length text - at)) (sym on) (subst (λ (b : Bool). left_if b (length text - at) < suc (length text - at)) (sym over) (omega arith));
  }

  pub goes : (next : ℕ) → at < next → next ≤ length text → rest p t u m (lines (drop at text)) ≡ rest q t' u' m' (lines (drop next text))
      → goes_on q ≡ true → Moved text at p t u m next q t' u' m'
  goes next ahead within e going = record {
    ready = record { within = within; short = r.short; room = room };
    same = e;
    less = λ on. subst (λ (b : Bool). left_if (goes_on q) (length text - next) < left_if b (length text - at)) (sym on) (subst (λ (b : Bool). left_if b (length text - next) < suc (length text - at)) (sym going) (omega arith));
  }

-- by what was taken
module _ (text : List ℕ) (at : ℕ) (p : Awaited) (t u m t' u' m' : List ℤ) (a : Taken) where
  pub taken_as : (b : Taken) → a ≡ b → Moved text at p t u m b.next b.got t' u' m' → Moved text at p t u m a.next a.got t' u' m'
  taken_as b e x = subst (λ (c : Taken). Moved text at p t u m c.next c.got t' u' m') (sym e) x

-- ---- headings

module _ (h text : List ℕ) (at line : ℕ) (after : Awaited) where
  pub headed_yes : is_heading h (drop at text) ≡ true → headed h text at line after ≡ record { next = at + suc (length h); got = after }
  unfolding headed past_line is_heading
  headed_yes e =
      let same = same_bytes_true (first_line (drop at text)).content h (and_right (first_line (drop at text)).ended _ e) in
      if_true (is_heading h (drop at text)) _ _ e ∙ ap (λ (l : List ℕ). record { next = at + suc (length l); got = after }) same

  pub headed_no : is_heading h (drop at text) ≡ false → headed h text at line after ≡ record { next = at; got = NoHeading line }
  unfolding headed
  headed_no e = if_false (is_heading h (drop at text)) _ _ e

  -- as the place after the heading says it
  pub headed_off : (next : ℕ) → next ≡ after_heading h text at → next ≡ 0 → record { next = at; got = NoHeading line } ≡ headed h text at line after
  unfolding after_heading
  headed_off next q z =
      ⊎_elim (λ e. absurd (omega (arith, q, if_true (is_heading h (drop at text)) (at + suc (length h)) 0 e))) (λ e. sym (headed_no e)) (decide (is_heading h (drop at text)))

  pub headed_on : (next : ℕ) → next ≡ after_heading h text at → (next ≡ 0 → ⊥) → record { next = next; got = after } ≡ headed h text at line after
  unfolding after_heading
  headed_on next q z =
      ⊎_elim
      (λ e. ap (λ (i : ℕ). record { next = i; got = after }) (q ∙ if_true (is_heading h (drop at text)) (at + suc (length h)) 0 e) ∙ sym (headed_yes e))
      (λ e. absurd (z (q ∙ if_false (is_heading h (drop at text)) (at + suc (length h)) 0 e)))
      (decide (is_heading h (drop at text)))

-- a line that has to be the heading h, line k of the text
module _ (text : List ℕ) (at : ℕ) (p : Awaited) (t u m : List ℤ) (r : Ready text at p t u m) (h : List ℕ) (none : lacks 10 h ≡ true) (k : ℕ) (after : Awaited)
    (room : Room after (length t) (length u) (length m)) (going : goes_on after ≡ true) (f : List Line → Reading Whole)
    (before : rest p t u m (lines (drop at text)) ≡ (heading_at h k (lines (drop at text)) and_then f)) (then-on : (ls : List Line) → f ls ≡ rest after t u m ls) where
  pub heading_moved : (a : Taken) → a ≡ headed h text at k after → Moved text at p t u m a.next a.got t u m
  unfolding rest
  heading_moved a q = ⊎_elim on off (decide (is_heading h (drop at text)))
    where
      on : is_heading h (drop at text) ≡ true → Moved text at p t u m a.next a.got t u m
      on e =
          taken_as text at p t u m t u m a (record { next = at + suc (length h); got = after }) (q ∙ headed_yes h text at k after e)
          (goes text at p t u m r after t u m room (at + suc (length h)) (omega arith) (heading_inside text at h k none e)
          (before ∙ then_is (heading_at h k (lines (drop at text))) f _ (heading_reads text at h k none e) ∙ then-on _) going)

      off : is_heading h (drop at text) ≡ false → Moved text at p t u m a.next a.got t u m
      off e =
          taken_as text at p t u m t u m a (record { next = at; got = NoHeading k }) (q ∙ headed_no h text at k after e)
          (stays text at p t u m r (NoHeading k) t u m tt refl (before ∙ then_stops (heading_at h k (lines (drop at text))) f HeadingRefused k (heading_stops text at h k e)))

-- ---- rows

-- a row is found, or not; the table b is the one that it is stored in, from `to` on
module _ (text : List ℕ) (at : ℕ) (p : Awaited) (t u m t' u' m' : List ℤ) (n most line : ℕ) (after : Awaited) (b : List ℤ) (to w : ℕ) where
  pub row_moved : (a : Taken) → a ≡ row_by at n most line after (row_found text at w)
      → (wanted (eqb w) (row (drop at text)) ≡ none → Moved text at p t u m at (BadLine line) t' u' m')
      → ((next : ℕ) → RowEnded text at b to (row_into text at w to b) (to + w) next → n ≡ most → Moved text at p t u m at (TooMany line) t' u' m')
      → ((next : ℕ) → RowEnded text at b to (row_into text at w to b) (to + w) next → (n ≡ most → ⊥) → Moved text at p t u m next after t' u' m')
      → Moved text at p t u m a.next a.got t' u' m'
  unfolding row_by
  row_moved a e bad many more = go (row_found text at w) (row_of text at b to w) e
    where
      go : (f : Found) → RowOf text at b to w (row_into text at w to b) f → a ≡ row_by at n most line after f → Moved text at p t u m a.next a.got t' u' m'
      go Nothing x q = taken_as text at p t u m t' u' m' a _ q (bad x)
      go (At next) x q =
          ⊎_elim
          (λ i. taken_as text at p t u m t' u' m' a _ (q ∙ if_true (eqb n most) _ _ i) (many next x (eqb-true n most i)))
          (λ i. taken_as text at p t u m t' u' m' a _ (q ∙ if_false (eqb n most) _ _ i) (more next x (λ j. true≢false (sym (eq-eqb n most j) ∙ i))))
          (decide (eqb n most))

-- rows of a schema or model text, whose whole is made of them by `wrap`
module _ (text : List ℕ) (at : ℕ) (p : Awaited) (t u m : List ℤ) (r : Ready text at p t u m) (w n most : ℕ) (after ended : Awaited) (wrap : Reading (List ℤ) → Reading Whole)
    (stop : (why : Refusal) (k : ℕ) → wrap (stopped why k) ≡ stopped why k) (before : rest p t u m (lines (drop at text)) ≡ wrap (rows_so_far text w most 4 t n at))
    (few : n ≤ most) (fit : n < most → w * n + w ≤ length t) (over : goes_on ended ≡ false) (going : goes_on after ≡ true) (room : Room ended (length t) (length u) (length m))
    (at-end : (ls : List Line) → wrap (read (take (w * n) t)) ≡ rest ended t u m ls)
    (room' : n < most → Room after (length (row_into text at w (w * n) t)) (length u) (length m))
    (then-on : (i : ℕ) → wrap (rows_so_far text w most 4 (row_into text at w (w * n) t) (n + 1) i) ≡ rest after (row_into text at w (w * n) t) u m (lines (drop i text))) where
  abbrev t' : List ℤ
  t' = row_into text at w (w * n) t

  pub listed_moved : (a : Taken) → a ≡ listed_by text at w n most after ended → Moved text at p t u m a.next a.got t' u m
  unfolding rest listed_by
  listed_moved a e = ⊎_elim end line (decide (leb (length text) at))
    where
      end : leb (length text) at ≡ true → Moved text at p t u m a.next a.got t' u m
      end i =
          let l = leb-true (length text) at i in
          taken_as text at p t u m t' u m a _ (e ∙ if_true (leb (length text) at) _ _ i)
          (subst (λ (c : List ℤ). Moved text at p t u m at ended c u m) (into_over text at w (w * n) t l)
          (stays text at p t u m r ended t u m room over (before ∙ ap wrap (rows_done text w most 4 t n at l) ∙ at-end _)))

      line : leb (length text) at ≡ false → Moved text at p t u m a.next a.got t' u m
      line i =
          let l = leb-false (length text) at i in
          row_moved text at p t u m t' u m n most (4 + n) after t (w * n) w a (e ∙ if_false (leb (length text) at) _ _ i)
          (λ y. stays text at p t u m r (BadLine (4 + n)) t' u m tt refl (before ∙ ap wrap (rows_stop text w most 4 t n at l y) ∙ stop LineRefused (4 + n)))
          (λ next y q. stays text at p t u m r (TooMany (4 + n)) t' u m tt refl (before ∙ ap wrap (rows_full text w most 4 t n at l t' next y (omega arith)) ∙ stop TooManyRefused (4 + n)))
          (λ next y q. let k : n < most = omega arith in
          goes text at p t u m r after t' u m (room' k) next y.ahead y.within
          (before ∙ ap wrap (rows_next text w most 4 t n at l t' next y k (fit k)) ∙ then-on next) going)

-- ---- formula rows of a proof text, and the heading after them

-- the nodes that are read after formula rows make the whole proof
nodes_after : (v : List ℤ) (x : Reading (List ℤ × List ℤ)) → as_proof (x and_then with_nodes v) ≡ proof_with v x
unfolding as_proof proof_with ◌and_then◌
nodes_after v (read p) = refl
nodes_after v (stopped why k) = refl

module _ (text : List ℕ) (at n : ℕ) (t u m : List ℤ) (r : Ready text at (Formula n) t u m) where
  formulas_before : rest (Formula n) t u m (lines (drop at text)) ≡ as_proof (proof_so_far text t n at)
  unfolding rest proof_so_far
  formulas_before = refl

  as_stopped : (why : Refusal) (k : ℕ) → as_proof (stopped why k) ≡ stopped why k
  unfolding as_proof ◌and_then◌
  as_stopped why k = refl

  pub formula_missing : length text ≤ at → Moved text at (Formula n) t u m at (NoHeading (2 + n)) t u m
  unfolding rest
  formula_missing l = stays text at (Formula n) t u m r (NoHeading (2 + n)) t u m tt refl (formulas_before ∙ ap as_proof (formulas_missing text t n at l) ∙ as_stopped HeadingRefused (2 + n))

  -- the second heading, after which no node is read yet
  pub formula_heading : at < length text → get_or text at 256 ≡ 117 → (a : Taken) → a ≡ headed node_heading text at (2 + n) (Node n 0 0)
      → Moved text at (Formula n) t u m a.next a.got t u m
  unfolding as_proof
  formula_heading l e a x =
      heading_moved text at (Formula n) t u m r node_heading node_heading_lacks (2 + n) (Node n 0 0)
      (r.room.0, omega arith, omega arith, r.room.1, r.room.2, r.room.3) refl
      (λ ls. as_proof (nodes_from 1024 0 (3 + n) ls and_then with_nodes (take (4 * n) t)))
      (formulas_before ∙ ap as_proof (formulas_heading text t n at l e) ∙ then_then (heading_at node_heading (2 + n) (lines (drop at text))) _ _) first a x
    where
      first : (ls : List Line) → as_proof (nodes_from 1024 0 (3 + n) ls and_then with_nodes (take (4 * n) t)) ≡ rest (Node n 0 0) t u m ls
      first ls =
          nodes_after (take (4 * n) t) (nodes_from 1024 0 (3 + n) ls)
          ∙ ap (proof_with (take (4 * n) t)) (sym (nodes_ahead_none (nodes_from 1024 0 (3 + n) ls)) ∙ ap (λ (i : ℕ). nodes_ahead [] [] (nodes_from 1024 0 i ls)) (sym (add-zero (3 + n))))
          ∙ unfold rest in refl

  pub formula_row : at < length text → (get_or text at 256 ≡ 117 → ⊥) → (a : Taken) → a ≡ row_by at n 1024 (2 + n) (Formula (n + 1)) (row_found text at 4)
      → Moved text at (Formula n) t u m a.next a.got (row_into text at 4 (4 * n) t) u m
  unfolding rest
  formula_row l e a x =
      let t' = row_into text at 4 (4 * n) t in
      row_moved text at (Formula n) t u m t' u m n 1024 (2 + n) (Formula (n + 1)) t (4 * n) 4 a x
      (λ y. stays text at (Formula n) t u m r (BadLine (2 + n)) t' u m tt refl (formulas_before ∙ ap as_proof (formulas_stop text t n at l e y) ∙ as_stopped LineRefused (2 + n)))
      (λ next y q. stays text at (Formula n) t u m r (TooMany (2 + n)) t' u m tt refl (formulas_before ∙ ap as_proof (formulas_full text t n at l e t' next y (omega arith)) ∙ as_stopped TooManyRefused (2 + n)))
      (λ next y q. let few : n < 1024 = omega (arith, r.room.0) in
      goes text at (Formula n) t u m r (Formula (n + 1)) t' u m (omega arith, omega (arith, r.room.1, into_length text at 4 (4 * n) t), r.room.2, r.room.3) next y.ahead y.within
      (formulas_before ∙ ap as_proof (formulas_next text t n at l e t' next y few r.room.1) ∙ unfold proof_so_far in refl) refl)

-- ---- node rows

module _ (text : List ℕ) (at n j k : ℕ) (t u m : List ℤ) (r : Ready text at (Node n j k) t u m) where
  nodes_before : rest (Node n j k) t u m (lines (drop at text)) ≡ proof_with (take (4 * n) t) (nodes_so_far text (3 + n) u m j k at)
  unfolding rest nodes_so_far
  nodes_before = refl

  with_stopped : (why : Refusal) (i : ℕ) → proof_with (take (4 * n) t) (stopped why i) ≡ stopped why i
  unfolding proof_with ◌and_then◌
  with_stopped why i = refl

  pub nodes_over : length text ≤ at → Moved text at (Node n j k) t u m at (Proof n j k) t u m
  unfolding rest
  nodes_over l =
      stays text at (Node n j k) t u m r (Proof n j k) t u m (omega (arith, r.room.0, r.room.3), omega (arith, r.room.1, r.room.4), omega (arith, r.room.2, r.room.5)) refl
      (nodes_before ∙ ap (proof_with (take (4 * n) t)) (nodes_done text (3 + n) u m j k at l) ∙ unfold proof_with ◌and_then◌ in refl)

  module _ (l : at < length text) (u' m' : List ℤ) where
    pub node_refused : wanted (leb 7) (row (drop at text)) ≡ none → Moved text at (Node n j k) t u m at (BadLine (3 + n + j)) t u' m'
    unfolding rest
    node_refused x = stays text at (Node n j k) t u m r (BadLine (3 + n + j)) t u' m' tt refl (nodes_before ∙ ap (proof_with (take (4 * n) t)) (nodes_stop text (3 + n) u m j k at l x) ∙ with_stopped LineRefused (3 + n + j))

    module _ (next last : ℕ) (x : NodeRead text at u (9 * j) m k u' m' next last) where
      pub node_many : j ≡ 1024 → Moved text at (Node n j k) t u m at (TooMany (3 + n + j)) t u' m'
      unfolding rest
      node_many e = stays text at (Node n j k) t u m r (TooMany (3 + n + j)) t u' m' tt refl (nodes_before ∙ ap (proof_with (take (4 * n) t)) (nodes_too_many text (3 + n) u m j k at l u' m' next last x (omega arith)) ∙ with_stopped TooManyRefused (3 + n + j))

      pub member_many : 8192 < last → Moved text at (Node n j k) t u m at (TooMany (3 + n + j)) t u' m'
      unfolding rest
      member_many e = stays text at (Node n j k) t u m r (TooMany (3 + n + j)) t u' m' tt refl (nodes_before ∙ ap (proof_with (take (4 * n) t)) (members_too_many text (3 + n) u m j k at l u' m' next last x e) ∙ with_stopped TooManyRefused (3 + n + j))

      pub node_next : (u'' : List ℤ) → length u'' ≡ length u → length m' ≡ length m → (j ≡ 1024 → ⊥) → last ≤ 8192
          → u'' ≡ set (set u' (9 * j + 7) (pos k)) (9 * j + 7 + 1) (pos (last - k)) → Moved text at (Node n j k) t u m next (Node n (j + 1) last) t u'' m'
      unfolding rest
      node_next u'' lu lm e q s =
          let few : j < 1024 = omega (arith, r.room.1) in
          goes text at (Node n j k) t u m r (Node n (j + 1) last) t u'' m' (r.room.0, omega arith, q, r.room.3, omega (arith, r.room.4), omega (arith, r.room.5)) next x.ahead x.within
          (nodes_before ∙ ap (proof_with (take (4 * n) t)) (nodes_next text (3 + n) u m j k at l u' m' next last x u'' few q r.room.4 r.room.5 s) ∙ unfold nodes_so_far in refl) refl
