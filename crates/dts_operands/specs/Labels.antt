-- Which alternatives of expressions may have a type.
use Rattle.std.specs.Prelude.{◌≡◌, false, List, [], ◌∷◌}
use Rattle.es_grammar.specs.declared.rows.NodeKind.{NodeKind}
use Rattle.es_grammar.specs.declared.rows.NodeKind.TheVariants as l
use Rattle.es_syntax.specs.Views.{is_one_of}
use Rattle.dts_operands.specs.declared.labels.Sort.{Sort}
use Rattle.dts_operands.specs.declared.labels.Sort.TheVariants as sort
use Rattle.dts_operands.specs.declared.labels.Base.{Base}
use Rattle.dts_operands.specs.declared.labels.Base.TheVariants as base
use Rattle.dts_operands.specs.declared.labels.Behind.{Behind}
use Rattle.dts_operands.specs.declared.labels.Behind.TheVariants as behind

-- the alternatives that may have a type
abbrev pub typing : List NodeKind
typing =
    l.Name ∷ l.Word ∷ l.Number ∷ l.Str ∷ l.RegExp ∷ l.Template ∷ l.TemplateParts ∷ l.ArrayLiteral ∷
    l.ObjectLiteral ∷ l.Function ∷ l.AsyncFunction ∷ l.TypedFunction ∷ l.TypedAsyncFunction ∷ l.NameArrow ∷
    l.ParenthesizedArrow ∷ l.AsyncNameArrow ∷ l.AsyncParenthesizedArrow ∷ l.TypedParenthesizedArrow ∷
    l.TypedAsyncParenthesizedArrow ∷ l.New ∷ l.TypedNew ∷ l.Chain ∷ l.UnaryExpression ∷ l.TypedBinary ∷
    l.TypeAssertion ∷ []

-- those that may have one where the value is frozen
abbrev pub freezing : List NodeKind
freezing =
    l.ArrayLiteral ∷ l.ObjectLiteral ∷ l.Function ∷ l.AsyncFunction ∷ l.TypedFunction ∷
    l.TypedAsyncFunction ∷ l.NameArrow ∷ l.ParenthesizedArrow ∷ l.AsyncNameArrow ∷
    l.AsyncParenthesizedArrow ∷ l.TypedParenthesizedArrow ∷ l.TypedAsyncParenthesizedArrow ∷ l.Chain ∷
    l.TypedBinary ∷ l.TypeAssertion ∷ []

-- elements behind `...`
abbrev pub spreading : List NodeKind
spreading =
    l.Spread ∷ []

-- what may have a type behind `...` in an array
abbrev pub resting : List NodeKind
resting =
    l.Name ∷ l.ArrayLiteral ∷ l.Spread ∷ []

-- numbers and BigInts
abbrev pub counting : List NodeKind
counting =
    l.Number ∷ []

-- names
abbrev pub naming : List NodeKind
naming =
    l.Name ∷ []

-- what may be `Object`, or `Object.freeze`
abbrev pub beginning : List NodeKind
beginning =
    l.Name ∷ l.Chain ∷ []

-- what an alternative is asked as: one without a type has none, and a leaf has none where the value is frozen
abbrev pub Fits : NodeKind → Sort → Type 0
Fits label sort.Leaf = is_one_of freezing label ≡ false
Fits label sort.Signed = is_one_of freezing label ≡ false
Fits label sort.New = is_one_of freezing label ≡ false
Fits label sort.Other = is_one_of typing label ≡ false
Fits label _ = Unit {0}

abbrev pub Begins : NodeKind → Base → Type 0
Begins label base.Other = is_one_of beginning label ≡ false
Begins label _ = Unit {0}

abbrev pub Rests : NodeKind → Behind → Type 0
Rests label behind.Other = is_one_of resting label ≡ false
Rests label _ = Unit {0}
