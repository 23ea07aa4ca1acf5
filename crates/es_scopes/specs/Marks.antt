-- The names and scopes of a kept tree, in the order of the text: what a walk by the steps of its alternatives (`plan`)
-- meets.
use Rattle.std.specs.Prelude.{ℕ, ◌+◌, Bool, true, false, not, ◌&&◌, ◌||◌, if◌then◌else◌, List, [], ◌∷◌, Option, Some, None, is_some, slice_get}
use Rattle.es_token.specs.declared.token.Token.{Token}
use Rattle.es_token.specs.declared.token.TokenKind.{TokenKind}
use Rattle.es_token.specs.declared.token.TokenKind.TheVariants as k
use Rattle.grammar_theory.specs.Key.{same_kind}
use Rattle.es_grammar.specs.declared.cst.tree.Cst.{Cst}
use Rattle.es_syntax.specs.declared.entry.Lean.{Lean}
use Rattle.es_walk.specs.declared.step.Path.TheVariants as path
use Rattle.es_walk.specs.declared.step.Step.{Step}
use Rattle.es_walk.specs.declared.step.Step.TheVariants.{Rest, All}
use Rattle.es_walk.specs.Part.{Part, part, group, is_there, has_second, number_in, own_in}
use Rattle.es_walk.specs.Walk.{Analysis, walked}
use Rattle.es_scopes.specs.declared.steps.Place.{Place}
use Rattle.es_scopes.specs.declared.steps.Place.TheVariants as vPlace
use Rattle.es_scopes.specs.declared.steps.Mark.{Mark}
use Rattle.es_scopes.specs.declared.steps.Mark.TheVariants as mark
use Rattle.es_scopes.specs.declared.steps.When.{When}
use Rattle.es_scopes.specs.declared.steps.When.TheVariants.{Always, Apart, Caught, Braced, Named}
use Rattle.es_scopes.specs.declared.steps.Way.{Way}
use Rattle.es_scopes.specs.declared.steps.Way.TheVariants as way
use Rattle.es_scopes.specs.declared.steps.Act.{Act}
use Rattle.es_scopes.specs.declared.steps.Act.TheVariants as act
use Rattle.es_scopes.specs.declared.steps.Turn.{Turn}
use Rattle.es_scopes.specs.declared.steps.Turn.TheVariants as turn
use Rattle.es_scopes.specs.Plan.{plan}

abbrev pub Marks : Type 0
Marks = List Mark

-- parts of a node, where each node has its marks by the place at which it stands
abbrev pub Parts : Type 0
Parts = Part (Place → Marks)

-- ---- steps that several alternatives share
-- a case of `switch`: what it tests, and its statements
unfoldable pub turn_plan : Turn → List (Step Way Act Turn)
turn_plan turn.Case = All way.Same (path.At 0) ∷ All way.Binds (path.At 1) ∷ []

-- operands are used
unfoldable pub operand_plan : Lean → List (Step Way Act Turn)
operand_plan lean = Rest way.Same ∷ []

-- ---- how a name is meant
abbrev pub is_body : Place → Bool
is_body vPlace.Body = true
is_body _ = false

-- whether `var` declares in a scope
abbrev pub hoists_in : Place → When → Bool → Bool
hoists_in here Apart hoists = hoists || is_body here
hoists_in here _ hoists = hoists

-- where an expression stands
abbrev pub is_used : Place → Bool
is_used vPlace.Uses = true
is_used vPlace.Body = true
is_used _ = false

abbrev pub kind_is : TokenKind → Option Token → Bool
kind_is kind (Some t) = same_kind t.kind kind
kind_is kind None = false

module _ (ts : List Token) where
  -- the token of this number is of this kind
  abbrev pub is_kind : TokenKind → ℕ → Bool
  is_kind kind n = kind_is kind (slice_get ts n)

  -- what stands after `var` is hoisted, what stands after another word isn't
  abbrev pub word_by : Option ℕ → Place
  word_by (Some n) = if is_kind k.VarWord n then vPlace.Hoists else vPlace.Binds
  word_by None = vPlace.Binds

  -- a name; `this` is none
  abbrev pub named : Place → Option ℕ → Marks
  named place (Some n) = if is_kind k.ThisWord n then [] else mark.Name place n ∷ []
  named place None = []

  -- `{` stands after the token
  abbrev pub is_braced : Option ℕ → Bool
  is_braced (Some n) = is_kind k.OpenBrace (n + 1)
  is_braced None = false

  -- the place to which a way leads from here; nowhere, where `from` follows what is exported
  abbrev pub leads : Place → Parts → Way → Option Place
  leads here p way.Same = Some here
  leads here p way.Uses = Some vPlace.Uses
  leads here p way.Binds = Some vPlace.Binds
  leads here p way.Body = Some vPlace.Body
  leads here p way.Word = Some (word_by (number_in (part p 0)))
  leads here p way.Exported = if is_there (group p 2) then None else Some vPlace.Uses

  abbrev pub named_at : Option Place → Option ℕ → Marks
  named_at (Some place) at = named place at
  named_at None at = []

  -- whether the body of a function is a scope of its own
  module _ (bodies : Bool) where
    abbrev pub holds : Place → Parts → When → Bool
    holds here p Always = true
    holds here p Apart = bodies || not (is_body here)
    holds here p Caught = has_second (group p 1)
    holds here p Braced = is_braced (number_in (part p 0))
    holds here p (Named n) = is_some (number_in (own_in (part p n))) && is_used here

    -- what is met at a node with these parts
    abbrev pub acts : Place → Parts → Act → Marks
    acts here p (act.Open when hoists) =
        if holds here p when then mark.Open (hoists_in here when hoists) ∷ [] else []
    acts here p (act.Close when) = if holds here p when then mark.Close ∷ [] else []
    acts here p (act.Name w n) = named_at (leads here p w) (number_in (part p n))
    acts here p (act.NameIn w n m) = named_at (leads here p w) (number_in (part (group p n) m))
    acts here p (act.Own n) = named vPlace.Binds (number_in (own_in (part p n)))

    abbrev pub scopes : Analysis Place Way Act Turn Mark
    scopes = record {
      plan = plan;
      turn = turn_plan;
      operands = λ lean. Some vPlace.Uses;
      operand = operand_plan;
      leads = leads;
      acts = acts;
    }

  -- what is met in a tree: a program's names and scopes
  abbrev pub marks : Cst → Marks
  marks tree = walked (scopes false) tree vPlace.Binds

  -- the same, where the block of a body is a scope of its own, inside that of the parameters
  abbrev pub body_marks : Cst → Marks
  body_marks tree = walked (scopes true) tree vPlace.Binds
