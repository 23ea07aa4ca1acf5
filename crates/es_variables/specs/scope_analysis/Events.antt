-- The declarations of a kept tree, in the order of the walk: what a walk by the steps of its alternatives (`plan`)
-- meets.
use Rattle.std.specs.Prelude.{ℕ, Bool, true, false, if◌then◌else◌, List, [], ◌∷◌, Option, Some, None, slice_get, option_map, bytes_eq}
use Rattle.es_token.specs.declared.token.Token.{Token}
use Rattle.es_token.specs.declared.token.TokenKind.{TokenKind}
use Rattle.es_token.specs.declared.token.TokenKind.TheVariants as k
use Rattle.grammar_theory.specs.Key.{same_kind}
use Rattle.es_grammar.specs.declared.rows.NodeKind.{NodeKind}
use Rattle.es_grammar.specs.declared.rows.NodeKind.TheVariants as l
use Rattle.es_grammar.specs.declared.cst.tree.Cst.{Cst}
use Rattle.es_lowering.specs.Texts.{ident_of}
use Rattle.es_syntax.specs.declared.entry.Lean.{Lean}
use Rattle.es_walk.specs.declared.step.Path.{Path}
use Rattle.es_walk.specs.declared.step.Step.{Step}
use Rattle.es_walk.specs.declared.step.Step.TheVariants.{Rest}
use Rattle.es_walk.specs.Part.{Part, part, follow, number_in, own_in, node_in}
use Rattle.es_walk.specs.Walk.{Analysis, walked}
use Rattle.es_variables.specs.declared.scope_analysis.kinds.BindingKind.{BindingKind}
use Rattle.es_variables.specs.declared.scope_analysis.kinds.BindingKind.TheVariants as kind
use Rattle.es_variables.specs.declared.scope_analysis.steps.Visit.{Visit}
use Rattle.es_variables.specs.declared.scope_analysis.steps.Visit.TheVariants as visit
use Rattle.es_variables.specs.declared.scope_analysis.steps.Event.{Event}
use Rattle.es_variables.specs.declared.scope_analysis.steps.Event.TheVariants as event
use Rattle.es_variables.specs.declared.scope_analysis.steps.Way.{Way}
use Rattle.es_variables.specs.declared.scope_analysis.steps.Way.TheVariants as way
use Rattle.es_variables.specs.declared.scope_analysis.steps.Act.{Act}
use Rattle.es_variables.specs.declared.scope_analysis.steps.Act.TheVariants as act
use Rattle.es_variables.specs.scope_analysis.Plan.{plan}

abbrev pub Events : Type 0
Events = List Event

-- parts of a node, where each node has its events by what is done with it
abbrev pub Parts : Type 0
Parts = Part (Visit → Events)

abbrev pub Node : Type 0
Node = Option (NodeKind × Parts)

-- operands are walked
unfoldable pub operand_plan : Lean → List (Step Way Act (Unit {0}))
operand_plan lean = Rest way.Same ∷ []

-- ---- what is done with a part
-- what is walked where its node is
abbrev pub inner : Visit → Option Visit
inner visit.Walks = Some visit.Walks
inner visit.Body = Some visit.Walks
inner (visit.Names bound) = None

abbrev pub is_body : Visit → Bool
is_body visit.Body = true
is_body _ = false

-- a name, where names are declared
abbrev pub named : Visit → Option ℕ → Events
named (visit.Names bound) (Some n) = event.Declare bound n ∷ []
named _ _ = []

abbrev pub declared : BindingKind → Option ℕ → Events
declared bound number = named (visit.Names bound) number

-- ---- the names of nodes
-- the name that a pattern is
abbrev pub name_by : NodeKind → Parts → Option ℕ
name_by l.NamePattern p = number_in (part p 0)
name_by _ p = None

abbrev pub name_in : Node → Option ℕ
name_in (Some n) = name_by n.0 n.1
name_in None = None

-- that of a class
abbrev pub class_by : NodeKind → Parts → Option ℕ
class_by l.Class p = number_in (own_in (part p 0))
class_by l.TypedClass p = number_in (own_in (part p 0))
class_by l.AbstractClass p = number_in (own_in (part p 0))
class_by _ p = None

abbrev pub class_in : Node → Option ℕ
class_in (Some n) = class_by n.0 n.1
class_in None = None

-- both are there and of the same text
abbrev pub same : Option (List ℕ) → Option (List ℕ) → Bool
same (Some a) (Some b) = bytes_eq a b
same _ _ = false

module _ (ts : List Token) where
  -- the token of this number, where there is one
  abbrev pub told : Option ℕ → Option Token
  told (Some n) = slice_get ts n
  told None = None

  abbrev pub kind_is : TokenKind → Option Token → Bool
  kind_is asked (Some t) = same_kind t.kind asked
  kind_is asked None = false

  abbrev pub is_kind : TokenKind → Option ℕ → Bool
  is_kind asked number = kind_is asked (told number)

  -- `var`, `let`, or else `const`
  abbrev pub word_by : Option ℕ → BindingKind
  word_by number =
      if is_kind k.VarWord number then kind.Var else (if is_kind k.LetWord number then kind.Let else kind.Const)

  -- a key that is the word `constructor`
  abbrev pub is_key : NodeKind → Parts → Bool
  is_key l.WordKey p = is_kind k.ConstructorWord (number_in (part p 0))
  is_key _ p = false

  abbrev pub is_constructor : Node → Bool
  is_constructor (Some n) = is_key n.0 n.1
  is_constructor None = false

  abbrev pub method_by : Node → Visit
  method_by key = if is_constructor key then visit.Walks else visit.Body

module _ (x : List ℕ) (ts : List Token) where
  -- the text of a token
  abbrev pub spelled : Option ℕ → Option (List ℕ)
  spelled number = option_map (λ t. (ident_of x t).sym) (told ts number)

  -- the first part is a name that is declared, and its value is a class of the same name
  abbrev pub is_of_class : Visit → Parts → Path → Bool
  is_of_class (visit.Names bound) p at =
      same (spelled (name_in (node_in (part p 0)))) (spelled (class_in (node_in (follow p at))))
  is_of_class here p at = false

  abbrev pub leads : Visit → Parts → Way → Option Visit
  leads here p way.Same = Some here
  leads here p way.Walks = Some visit.Walks
  leads here p way.Body = Some visit.Body
  leads here p way.Inner = inner here
  leads here p (way.Names bound) = Some (visit.Names bound)
  leads here p way.Word = Some (visit.Names (word_by ts (number_in (part p 0))))
  leads here p (way.Method key) = Some (method_by ts (node_in (follow p key)))
  leads here p (way.Unless class) = if is_of_class here p class then None else Some here

  -- what is met at a node with these parts
  abbrev pub acts : Visit → Parts → Act → Events
  acts here p (act.Enter scope) = event.Enter scope ∷ []
  acts here p (act.EnterApart scope) = if is_body here then [] else event.Enter scope ∷ []
  acts here p act.Leave = event.Leave ∷ []
  acts here p act.LeaveApart = if is_body here then [] else event.Leave ∷ []
  acts here p (act.Declare bound n) = declared bound (number_in (part p n))
  acts here p (act.Name n) = named here (number_in (part p n))
  acts here p (act.Own bound n) = declared bound (number_in (own_in (part p n)))
  -- that name of the class is declared, as a class, in place of the variable
  acts here p (act.Class at) =
      if is_of_class here p at then declared kind.Class (class_in (node_in (follow p at))) else []

  abbrev pub rules : Analysis Visit Way Act (Unit {0}) Event
  rules = record {
    plan = plan;
    turn = λ t. [];
    operands = λ lean. Some visit.Walks;
    operand = operand_plan;
    leads = leads;
    acts = acts;
  }

  -- what is met in a tree
  abbrev pub events : Cst → Events
  events tree = walked rules tree visit.Walks
