-- Parameters as declarations have them.
use Rattle.std.specs.Prelude.{◌≡◌, ℕ, Bool, false, List, [], ◌∷◌, Option, Some, None, option_map, slice_get, IfSome, ◌&&◌}
use Rattle.base.specs.declared.range.Range.{Range}
use Rattle.es_token.specs.declared.token.Token.{Token}
use Rattle.es_ast.specs.declared.ts.ts.TsPart.{TsPart}
use Rattle.es_ast.specs.declared.ast.Expr.{Expr}
use Rattle.es_ast.specs.declared.ast.Param.{Param}
use Rattle.es_ast.specs.declared.leaf.Modifiers.{Modifiers}
use Rattle.es_ast.specs.declared.ast.Pat.{Pat, out-Pat}
use Rattle.es_ast.specs.declared.ast.Pat.TheVariants as vPat
use Rattle.es_lowering.specs.Value.{Value, given, as_group, first_of, behind, is_there, nil, param_at}
use Rattle.es_lowering.specs.Texts.{span_of}
use Rattle.es_lowering.specs.Functions.{plain}
use Rattle.es_lowering.specs.TypeNames.{behind_in}
use Rattle.es_lowering.specs.TypedParts.{modifiers_in, param_by}
use Rattle.es_syntax.specs.Roles.{marked_in, param_in}
use Rattle.es_changed.specs.declared.entry.ChangedEntry.{ChangedEntry}
use Rattle.es_changed.specs.Shape.{Writes}
use Rattle.es_view_expressions.specs.pattern.Marked as marked_view
use Rattle.es_view_statements.specs.param.Param.{tailed}
use Rattle.dts_rules.specs.Rules as rules
use Rattle.dts_rules.specs.Rules.{Run, in_turn}
use Rattle.dts_rules.specs.Programs.{shown_param, shown_pat}
use Rattle.dts_draft.specs.declared.draft.Draft.{Draft}
use Rattle.dts_draft.specs.Drafts.{state_of}
use Rattle.dts_draft.specs.Written.{IfThere, Puts, PutsAll}
use Rattle.dts_parts.specs.Groups.{annotation_in}

-- a parameter, and a pattern of one
abbrev pub param_rule : rules.Env → Param → Run Param
param_rule by p = (shown_param by p).declared

abbrev pub pat_rule : rules.Env → Pat → Run Pat
pat_rule by p = (shown_pat by p).declared

-- where a pattern, its mark and its type end
abbrev pub typed_range : List Token → Value → Value → Value → Range
typed_range ts name mark ty = span_of ts (first_of name) (behind_in ty (behind_in mark (behind name)))

-- `a = b` as a parameter
abbrev pub default_param_of : Range → Range → Option Pat → Option Expr → Option Param
default_param_of r span left right =
    given left (λ left. given right (λ right. Some (param_by plain r (vPat.Assign left right span))))

module _ (x : List ℕ) (ts : List Token) where
  -- one part is written, which this step makes of it
  pub record Made {A B : Type 0} (role : Value → Option B) (f : A → Run B) (old new : Draft) (it : A) : Type 0 where
    pub state : state_of new ≡ (f it (state_of old)).1
    pub puts : Puts x ts role old.row new.row (f it (state_of old)).0

  -- and of each in turn
  pub record AllMade {A B : Type 0} (role : Value → Option B) (f : A → Run B) (old new : Draft) (them : List A)
      : Type 0 where
    pub state : state_of new ≡ (in_turn f them (state_of old)).1
    pub puts : PutsAll x ts role old.row new.row (in_turn f them (state_of old)).0

  -- a parameter in a turn
  abbrev pub param_turn : Value → Option Param
  param_turn v = param_at (as_group v) 0

  -- a pattern, its mark and its type, and no default
  pub record Tailed (old new : List ChangedEntry) (pat : Pat) : Type 0 where
    pub name : Value
    pub mark : Value
    pub ty : Value
    pub writes : Writes x ts old new (name ∷ mark ∷ ty ∷ nil ∷ [])
    pub is : (span : Range)
        → tailed (typed_range ts name (as_group mark) (as_group ty)) span (marked_in name) (as_group mark) (as_group ty) nil
        ≡ Some pat

  -- of a pattern: what the rules make of it
  pub record TailMade (by : rules.Env) (old new : Draft) (it : Pat) : Type 0 where
    pub after : Pat
    pub tail : Tailed old.row new.row after
    pub made : pat_rule by it (state_of old) ≡ (after, state_of new)

  -- a parameter with these modifiers, over this range
  abbrev pub MadeOf : rules.Env → Draft → Draft → Modifiers → Range → Pat → Type 0
  MadeOf by old new m r pat = Made param_in (param_rule by) old new (param_by m r pat)

  -- a pattern with a default, by its parts
  abbrev pub DefaultTailed : rules.Env → Draft → Draft → Value → Value → Value → Option Expr → Type 0
  DefaultTailed by old new name mark ty right =
      IfThere (λ m. IfThere (λ a. IfThere (λ e. (span : Range)
      → TailMade by old new (vPat.Assign (m (is_there mark) a (typed_range ts name mark ty)) e span)) right)
      (annotation_in ty)) (marked_in name)

  abbrev pub DefaultMade : rules.Env → Draft → Draft → Modifiers → Range → Value → Value → Value → Option Expr → Type 0
  DefaultMade by old new modifiers r name mark ty right =
      IfThere (λ m. IfThere (λ a. IfThere (λ e. (span : Range)
      → MadeOf by old new modifiers r (vPat.Assign (m (is_there mark) a (typed_range ts name mark ty)) e span)) right)
      (annotation_in ty)) (marked_in name)

  -- after these modifiers a pattern with a default changes
  abbrev pub Changes : rules.Env → Value → Value → Type 0
  Changes by modifiers name =
      IfSome (modifiers_in ts plain modifiers) (λ m. IfThere (λ k. (b : Bool) (a : Option TsPart) (r : Range) (e : Expr)
      (span : Range)
      → (rules.is_property by m && rules.is_defaulted_pattern by (out-Pat (vPat.Assign (k b a r) e span))) ≡ false)
      (marked_in name))

  -- a pattern that is no name
  abbrev pub NoName : rules.Env → Value → Type 0
  NoName by name =
      IfThere (λ k. (b : Bool) (a : Option TsPart) (r : Range) → rules.is_name by (out-Pat (k b a r)) ≡ false)
      (marked_in name)

  -- a name, which is this token, without a type and a default
  abbrev pub AnyTailed : rules.Env → Draft → Draft → ℕ → Value → Value → Type 0
  AnyTailed by old new at name mark =
      marked_in name ≡ marked_view.ident x (slice_get ts at)
      → IfThere (λ m. TailMade by old new (m (is_there mark) None (typed_range ts name mark nil))) (marked_in name)

  abbrev pub AnyMade : rules.Env → Draft → Draft → Modifiers → Range → ℕ → Value → Value → Type 0
  AnyMade by old new modifiers r at name mark =
      marked_in name ≡ marked_view.ident x (slice_get ts at)
      → IfThere (λ m. MadeOf by old new modifiers r (m (is_there mark) None (typed_range ts name mark nil)))
      (marked_in name)

  -- a parameter by its parts, and one after modifiers
  abbrev pub TailedParam : Modifiers → Range → Range → Value → Value → Value → Value → Option Param
  TailedParam m r span name mark ty value =
      option_map (param_by m r) (tailed (typed_range ts name mark ty) span (marked_in name) mark ty value)

  abbrev pub PropertyParam : Range → Range → Value → Value → Value → Value → Value → Option Param
  PropertyParam r span modifiers name mark ty value =
      given (modifiers_in ts plain modifiers) (λ m. TailedParam m r span name mark ty value)
