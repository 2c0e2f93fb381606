use mathlib.Core.Path.{sym, ap, ap₂, subst}
use mathlib.Core.List.{List}
use lib.IntN.{ℤ}
use Rattle.stab.specs.Text.{schema_heading, row_heading, model_heading, pair_heading, bytes}
use Rattle.text.specs.OneLine.{stand, step, Stepped}
use Rattle.text.specs.declared.awaited.Taken.{Taken}
use Rattle.text.specs.declared.awaited.Awaited.{Awaited}
use Rattle.text.proofs.StepLaws.{over_steps}
use Rattle.text.proofs.Others.{others_over}
use borrow.Author.Rules.{rules}
use Rattle.text.proofs.awaited.once.Statement.{statement}
use Rattle.text.proofs.awaited.once.Tie as tie
use Rattle.stab.proofs.Texts.Kinds.{schema_heading_lacks, row_heading_lacks, model_heading_lacks, pair_heading_lacks}

enum_told-1 : tie.Need-enum_told-1
enum_told-1 c = search rules

heading_line-requires : tie.Need-heading_line-requires
unfolding schema_heading bytes
heading_line-requires c κs = (c.requires, schema_heading_lacks)

enum_told-in-SchemaValues : tie.Need-enum_told-in-SchemaValues
enum_told-in-SchemaValues c = search rules

row-requires : tie.Need-row-requires
row-requires c κs = search rules

enum_told-in-RowHeading : tie.Need-enum_told-in-RowHeading
enum_told-in-RowHeading c = search rules

heading_line-requires-in-RowHeading : tie.Need-heading_line-requires-in-RowHeading
unfolding row_heading bytes
heading_line-requires-in-RowHeading c κs = (c.requires, row_heading_lacks)

enum_told-in-ModelHeading : tie.Need-enum_told-in-ModelHeading
enum_told-in-ModelHeading c = search rules

heading_line-requires-in-ModelHeading : tie.Need-heading_line-requires-in-ModelHeading
unfolding model_heading bytes
heading_line-requires-in-ModelHeading c κs = (c.requires, model_heading_lacks)

enum_told-in-ModelValue : tie.Need-enum_told-in-ModelValue
enum_told-in-ModelValue c = search rules

row-requires-in-ModelValue : tie.Need-row-requires-in-ModelValue
row-requires-in-ModelValue c κs = search rules

enum_told-in-PairHeading : tie.Need-enum_told-in-PairHeading
enum_told-in-PairHeading c = search rules

heading_line-requires-in-PairHeading : tie.Need-heading_line-requires-in-PairHeading
unfolding pair_heading bytes
heading_line-requires-in-PairHeading c κs = (c.requires, pair_heading_lacks)

enum_told-in-ProofHeading : tie.Need-enum_told-in-ProofHeading
enum_told-in-ProofHeading c = search rules

heading_line-requires-in-ProofHeading : tie.Need-heading_line-requires-in-ProofHeading
unfolding row_heading bytes
heading_line-requires-in-ProofHeading c κs = (c.requires, row_heading_lacks)

returns-in-SchemaHeading : tie.Need-returns-in-SchemaHeading
unfolding step schema_heading bytes
returns-in-SchemaHeading c =
    let a = c.args in
    λ t m s. subst (λ (p : Awaited). Stepped a.text.now a.at p t a.store.now m c.heading_line.result t a.store.now m) (sym c.in-SchemaHeading.is) (ap (λ (r : Taken). stand r t a.store.now m) c.heading_line.ensures)

shape_of-store-in-SchemaValues : tie.Need-shape_of-store-in-SchemaValues
shape_of-store-in-SchemaValues c = search rules

returns-in-SchemaValues : tie.Need-returns-in-SchemaValues
unfolding step
returns-in-SchemaValues c =
    let a = c.args in
    λ t m s. subst (λ (p : Awaited). Stepped a.text.now a.at p t a.store.now m c.row.result t c.row.new.table m) (sym c.in-SchemaValues.is)
    (ap₂ (λ (r : Taken) (u : List ℤ). stand r t u m) c.row.ensures.0 c.row.ensures.1)

returns-in-RowHeading : tie.Need-returns-in-RowHeading
unfolding step row_heading bytes
returns-in-RowHeading c =
    let a = c.args in
    λ t m s. subst (λ (p : Awaited). Stepped a.text.now a.at p t a.store.now m c.heading_line-in-RowHeading.result t a.store.now m) (sym c.in-RowHeading.is) (ap (λ (r : Taken). stand r t a.store.now m) c.heading_line-in-RowHeading.ensures)

returns-in-ModelHeading : tie.Need-returns-in-ModelHeading
unfolding step model_heading bytes
returns-in-ModelHeading c =
    let a = c.args in
    λ t m s. subst (λ (p : Awaited). Stepped a.text.now a.at p t a.store.now m c.heading_line-in-ModelHeading.result t a.store.now m) (sym c.in-ModelHeading.is) (ap (λ (r : Taken). stand r t a.store.now m) c.heading_line-in-ModelHeading.ensures)

shape_of-store-in-ModelValue : tie.Need-shape_of-store-in-ModelValue
shape_of-store-in-ModelValue c = search rules

returns-in-ModelValue : tie.Need-returns-in-ModelValue
unfolding step
returns-in-ModelValue c =
    let a = c.args in
    λ t m s. subst (λ (p : Awaited). Stepped a.text.now a.at p t a.store.now m c.row-in-ModelValue.result t c.row-in-ModelValue.new.table m) (sym c.in-ModelValue.is)
    (ap₂ (λ (r : Taken) (u : List ℤ). stand r t u m) c.row-in-ModelValue.ensures.0 c.row-in-ModelValue.ensures.1)

returns-in-PairHeading : tie.Need-returns-in-PairHeading
unfolding step pair_heading bytes
returns-in-PairHeading c =
    let a = c.args in
    λ t m s. subst (λ (p : Awaited). Stepped a.text.now a.at p t a.store.now m c.heading_line-in-PairHeading.result t a.store.now m) (sym c.in-PairHeading.is) (ap (λ (r : Taken). stand r t a.store.now m) c.heading_line-in-PairHeading.ensures)

returns-in-ProofHeading : tie.Need-returns-in-ProofHeading
unfolding step row_heading bytes
returns-in-ProofHeading c =
    let a = c.args in
    λ t m s. subst (λ (p : Awaited). Stepped a.text.now a.at p t a.store.now m c.heading_line-in-ProofHeading.result t a.store.now m) (sym c.in-ProofHeading.is) (ap (λ (r : Taken). stand r t a.store.now m) c.heading_line-in-ProofHeading.ensures)

returns-in_default : tie.Need-returns-in_default
returns-in_default c =
    let a = c.args in
    λ t m s. over_steps a.text.now a.at t a.store.now m a.p (others_over a.p c.in_default.in_default-own.keys8 s)

pub once_spec : {M : Type 1} → statement M
once_spec =
    tie.close
    (tie.spec
    enum_told-1
    heading_line-requires
    enum_told-in-SchemaValues
    row-requires
    enum_told-in-RowHeading
    heading_line-requires-in-RowHeading
    enum_told-in-ModelHeading
    heading_line-requires-in-ModelHeading
    enum_told-in-ModelValue
    row-requires-in-ModelValue
    enum_told-in-PairHeading
    heading_line-requires-in-PairHeading
    enum_told-in-ProofHeading
    heading_line-requires-in-ProofHeading
    returns-in-SchemaHeading
    shape_of-store-in-SchemaValues
    returns-in-SchemaValues
    returns-in-RowHeading
    returns-in-ModelHeading
    shape_of-store-in-ModelValue
    returns-in-ModelValue
    returns-in-PairHeading
    returns-in-ProofHeading
    returns-in_default)
