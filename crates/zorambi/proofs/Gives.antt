-- What an entry gives follows from what is answered, of a record that is the one lent.
use Prim.Native.Nat.{ℕ}
use mathlib.Core.Path.{◌≡◌, ◌∙◌, ap, subst}
use mathlib.Core.List.{List}
use lib.IntN.{ℤ}
use Rattle.stab.specs.Node.{Tableau}
use Rattle.stab.specs.Entry.{proof_packed, proof_results}
use Rattle.std.specs.Prelude.{Result}
use Rattle.stab.specs.declared.Refused.{Refused}
use Rattle.stab.specs.declared.ProofCounts.{ProofCounts}
use Rattle.stab.specs.declared.Header.{Header}
use Rattle.tidied.specs.Tidy as T
use Rattle.joint.specs.Joint as J
use Rattle.zorambi.specs.Given.{TidyGives, JoinGives}

pub tidy_gives : {R : T.Rooms} {A A' : Tableau} {r : Result ProofCounts Refused} {x : ℕ} {results proof nodes members : List ℤ}
    → A ≡ A'
    → (r ≡ T.tidy R A) × ((proof ≡ T.tidy_proof R A) × ((nodes ≡ T.tidy_node_table R A) × (members ≡ T.tidy_member_table R A)))
    → (x ≡ proof_packed r) × (results ≡ proof_results r)
    → TidyGives R A' x results proof nodes members
tidy_gives {R} {x = x} {results = results} {proof = proof} {nodes = nodes} {members = members} e said told =
    subst (λ (B : Tableau). TidyGives R B x results proof nodes members) e
    (record {
      number = told.0 ∙ ap proof_packed said.0;
      counts = told.1 ∙ ap proof_results said.0;
      proof_table = said.1.0;
      node_table = said.1.1.0;
      member_table = said.1.1.1;
    })

pub join_gives : {R : J.Rooms} {A A' B B' : Tableau} {r : Result Header Refused} {x : ℕ} {results schema proof nodes members : List ℤ}
    → A ≡ A' → B ≡ B'
    → (r ≡ J.join R A B) × ((schema ≡ J.joined_schema R A B) × ((proof ≡ J.joined_proof R A B) × ((nodes ≡ J.joined_nodes R A B) × (members ≡ J.joined_members R A B))))
    → (x ≡ J.joined_packed r) × (results ≡ J.joined_results r)
    → JoinGives R A' B' x results schema proof nodes members
join_gives {R} {A = A} {B' = B'} {x = x} {results = results} {schema = schema} {proof = proof} {nodes = nodes} {members = members} e f said told =
    subst (λ (C : Tableau). JoinGives R C B' x results schema proof nodes members) e
    (subst (λ (D : Tableau). JoinGives R A D x results schema proof nodes members) f
    (record {
      number = told.0 ∙ ap J.joined_packed said.0;
      counts = told.1 ∙ ap J.joined_results said.0;
      schema_table = said.1.0;
      proof_table = said.1.1.0;
      node_table = said.1.1.1.0;
      member_table = said.1.1.1.1;
    }))
