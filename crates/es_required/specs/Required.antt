-- Names that are declared as `const r = createRequire(..)`, where `createRequire` is imported from `node:module`.
use Rattle.std.specs.Prelude.{ℕ, ◌==◌, Bool, true, false, not, ◌&&◌, ◌||◌, if◌then◌else◌, List, [], ◌∷◌, Option, Some, None, codes, slice_get, bytes_eq}
use Rattle.std.specs.List.{list_any}
use Rattle.es_token.specs.declared.token.Token.{Token}
use Rattle.es_grammar.specs.declared.rows.NodeKind.{NodeKind}
use Rattle.es_grammar.specs.declared.rows.NodeKind.TheVariants as l
use Rattle.es_grammar.specs.declared.cst.tree.Cst.{Cst}
use Rattle.es_lowering.specs.Texts.{ident_of}
use Rattle.es_syntax.specs.declared.entry.Lean.{Lean}
use Rattle.es_walk.specs.declared.step.Path.{Path}
use Rattle.es_walk.specs.declared.step.Path.TheVariants as path
use Rattle.es_walk.specs.declared.step.Step.{Step}
use Rattle.es_walk.specs.declared.step.Step.TheVariants.{Act as Do, Rest, At}
use Rattle.es_walk.specs.Part.{Part, part, as_group, follow, number_in, is_there, node_in}
use Rattle.es_walk.specs.Walk.{Analysis, walked}
use Rattle.es_required.specs.declared.steps.Place.{Place}
use Rattle.es_required.specs.declared.steps.Place.TheVariants as place
use Rattle.es_required.specs.declared.steps.Way.{Way}
use Rattle.es_required.specs.declared.steps.Way.TheVariants as way
use Rattle.es_required.specs.declared.steps.Act.{Act}
use Rattle.es_required.specs.declared.steps.Act.TheVariants as act
use Rattle.es_required.specs.declared.steps.Mark.{Mark}
use Rattle.es_required.specs.declared.steps.Mark.TheVariants as mark

abbrev pub Marks : Type 0
Marks = List Mark

-- parts of a node, where each node has its marks
abbrev pub Parts : Type 0
Parts = Part (Place → Marks)

abbrev pub Node : Type 0
Node = Option (NodeKind × Parts)

-- ---- where such names are
unfoldable pub plan : NodeKind → List (Step Way Act (Unit {0}))
plan l.FromImport = At way.From (path.At 1) ∷ []
plan l.DefaultAndClause = At way.Same (path.At 1) ∷ []
plan l.NamedImports = Rest way.Same ∷ []
plan l.ImportedName = Do (act.Import (path.At 1) (path.At 1)) ∷ []
plan l.RenamedImport = Do (act.Import (path.In 1 0) (path.At 2)) ∷ []
plan l.Variables = Rest way.Word ∷ []
plan l.Declarator = Do (act.Declare (path.At 1)) ∷ Rest way.Inner ∷ []
plan l.TypedDeclarator = Do (act.Declare (path.In 3 0)) ∷ Rest way.Inner ∷ []
plan _ = Rest way.Inner ∷ []

unfoldable pub operand_plan : Lean → List (Step Way Act (Unit {0}))
operand_plan lean = Rest way.Inner ∷ []

-- ---- the parts of a declaration
-- the token that a pattern is, if it is a name
abbrev pub pattern_by : NodeKind → Parts → Option ℕ
pattern_by l.NamePattern p = number_in (part p 0)
pattern_by _ p = None

abbrev pub pattern_in : Node → Option ℕ
pattern_in (Some n) = pattern_by n.0 n.1
pattern_in None = None

abbrev pub name_by : NodeKind → Parts → Option ℕ
name_by l.Name p = number_in (part p 0)
name_by _ p = None

abbrev pub name_in : Node → Option ℕ
name_in (Some n) = name_by n.0 n.1
name_in None = None

abbrev pub is_call_by : NodeKind → Bool
is_call_by l.CallPost = true
is_call_by l.TypedCallPost = true
is_call_by _ = false

abbrev pub is_call : Node → Bool
is_call (Some n) = is_call_by n.0
is_call None = false

-- the name that a value calls, where it is such a call alone
abbrev pub called_by : NodeKind → Parts → Option ℕ
called_by l.Chain p =
    if is_call (node_in (part p 1)) && not (is_there (as_group (part p 2))) then name_in (node_in (part p 0)) else None
called_by _ p = None

abbrev pub called_in : Node → Option ℕ
called_in (Some n) = called_by n.0 n.1
called_in None = None

-- the name and what it is called for, where both are there
abbrev pub made_of : Option ℕ → Option ℕ → Marks
made_of (Some name) (Some callee) = mark.Made name callee ∷ []
made_of _ _ = []

abbrev pub imported_of : Option ℕ → Marks
imported_of (Some name) = mark.Imported name ∷ []
imported_of None = []

abbrev pub from_by : Bool → Place
from_by true = place.Imported
from_by false = place.Plain

abbrev pub word_by : Bool → Place
word_by true = place.Const
word_by false = place.Plain

module _ (x : List ℕ) (ts : List Token) where
  abbrev pub same_word : List ℕ → Option Token → Bool
  same_word word (Some t) = bytes_eq (ident_of x t).sym word
  same_word word None = false

  -- a token's text is this word
  abbrev pub is_word : List ℕ → Option ℕ → Bool
  is_word word (Some n) = same_word word (slice_get ts n)
  is_word word None = false

  -- the literal is "module" or "node:module", written without an escape
  abbrev pub is_module : Option ℕ → Bool
  is_module at =
      is_word (codes "\"node:module\"") at || (is_word (codes "'node:module'") at
      || (is_word (codes "\"module\"") at || is_word (codes "'module'") at))

  abbrev pub leads : Place → Parts → Way → Option Place
  leads here p way.Inner = Some place.Plain
  leads here p way.Same = Some here
  leads here p way.From = Some (from_by (is_module (number_in (part p 2))))
  leads here p way.Word = Some (word_by (is_word (codes "const") (number_in (part p 0))))

  abbrev pub import_at : Parts → Path → Path → Marks
  import_at p at name =
      if is_word (codes "createRequire") (number_in (follow p at)) then imported_of (number_in (follow p name)) else []

  abbrev pub declare_at : Parts → Path → Marks
  declare_at p at = made_of (pattern_in (node_in (part p 0))) (called_in (node_in (follow p at)))

  abbrev pub acts : Place → Parts → Act → Marks
  acts place.Imported p (act.Import at name) = import_at p at name
  acts place.Const p (act.Declare at) = declare_at p at
  acts _ p _ = []

  abbrev pub rules : Analysis Place Way Act (Unit {0}) Mark
  rules = record {
    plan = plan;
    turn = λ t. [];
    operands = λ lean. Some place.Plain;
    operand = operand_plan;
    leads = leads;
    acts = acts;
  }

  -- what a program says of such names, in the order of the text
  unfoldable pub marks : Cst → Marks
  marks tree = walked rules tree place.Plain

  -- ---- which names they are
  abbrev pub same_text : Option Token → Option Token → Bool
  same_text (Some t) other = same_word (ident_of x t).sym other
  same_text None other = false

  -- `number` tells the scope that declares a name, by the name's token; 0 where none does
  module _ (number : ℕ → ℕ) where
    -- one scope declares both names, which are one
    abbrev pub same_name : ℕ → ℕ → Bool
    same_name a b =
        not (number a == 0) && (number a == number b && same_text (slice_get ts a) (slice_get ts b))

    abbrev pub imports : ℕ → Mark → Bool
    imports at (mark.Imported name) = same_name at name
    imports at _ = false

    abbrev pub makes : Marks → ℕ → Mark → Bool
    makes ms at (mark.Made name callee) = same_name at name && list_any (imports callee) ms
    makes ms at _ = false

    -- the name is declared so
    unfoldable pub is_required : Marks → Option ℕ → Bool
    is_required ms (Some at) = list_any (makes ms at) ms
    is_required ms None = false
