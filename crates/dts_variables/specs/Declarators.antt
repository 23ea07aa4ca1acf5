-- Declarators as declarations have them.
use Rattle.std.specs.Prelude.{◌≡◌, ℕ, Bool, false, List, Option, Some, None, option_map, slice_get}
use Rattle.base.specs.declared.range.Range.{Range}
use Rattle.es_token.specs.declared.token.Token.{Token}
use Rattle.es_ast.specs.declared.ts.ts.TsType.{TsType}
use Rattle.es_ast.specs.declared.ast.Expr.{Expr}
use Rattle.es_ast.specs.declared.ast.Pat.{Pat}
use Rattle.es_ast.specs.declared.ast.VarDeclarator.{VarDeclarator, roll-VarDeclarator}
use Rattle.es_lowering.specs.Value.{Value, nil, given, as_group, first_of, behind, turns, declarator_at}
use Rattle.es_lowering.specs.Texts.{span_of}
use Rattle.es_lowering.specs.TypeNames.{behind_in}
use Rattle.es_lowering.specs.TypedParts.{marked_by}
use Rattle.es_syntax.specs.declared.cursor.Item.{Item}
use Rattle.es_syntax.specs.Held.{valued}
use Rattle.es_syntax.specs.Roles.{declarator_in, expr_in, marked_in}
use Rattle.es_changed.specs.declared.entry.ChangedEntry.{ChangedEntry}
use Rattle.es_view_expressions.specs.pattern.Marked as marked_view
use Rattle.dts_rules.specs.declared.found.FoundKind.TheVariants as kind
use Rattle.dts_rules.specs.Rules as rules
use Rattle.dts_rules.specs.Rules.{Shown, State, or_any}
use Rattle.dts_rules.specs.Programs.{init_type, shown_declarator, shown_expr}
use Rattle.dts_draft.specs.declared.draft.Draft.{Draft}
use Rattle.dts_draft.specs.Drafts.{state_of}
use Rattle.dts_draft.specs.Written.{IfThere, Puts}
use Rattle.dts_parts.specs.Groups.{annotation_in, Annotated}
use Rattle.dts_parts.specs.Params.{Made}

-- a declarator over a range; of a pattern and a value, where both are there
abbrev pub declarator_by : Range → Bool → Option Expr → Pat → VarDeclarator
declarator_by r definite init pat =
    roll-VarDeclarator (record { name = pat; definite = definite; init = init; span = r })

abbrev pub declarator_with : Range → Bool → Option Pat → Option (Option Expr) → Option VarDeclarator
declarator_with r definite pat value =
    given pat (λ pat. given value (λ init. Some (declarator_by r definite init pat)))

-- where a pattern and its type are; the pattern with that type
abbrev pub named_range : List Token → Value → Value → Range
named_range ts name ty = span_of ts (first_of name) (behind_in ty (behind name))

abbrev pub named_pattern : List Token → Value → Value → Option Pat
named_pattern ts name ty =
    given (annotation_in ty) (λ a. marked_by (marked_in name) false a (named_range ts name ty))

-- the type of a name of this range by its value; without one it is `any`
abbrev pub value_type : rules.Env → Range → Option Expr → State → TsType × State
value_type by r init s =
    or_any kind.UnableToInferTypeFallbackAny r (init_type by (option_map (λ (e : Expr). (e, shown_expr by e)) init) s)

-- a declarator in a turn, and all of them
abbrev pub declarator_turn : Value → Option VarDeclarator
declarator_turn v = declarator_at (as_group v) 0

abbrev pub declarators_in : Value → Option (List VarDeclarator)
declarators_in v = turns (λ turn. declarator_at turn 0) (as_group v)

module _ (x : List ℕ) (ts : List Token) where
  -- the value of a declarator, which may have none
  abbrev pub value_of : Option Item → Option (Option Expr)
  value_of (Some it) = option_map Some (expr_in (valued x ts it))
  value_of None = Some None

  -- the type of a name by its value is written behind the name, which ends at this token
  pub record Typed (by : rules.Env) (old new : Draft) (to : ℕ) (r : Range) (init : Option Expr) : Type 0 where
    pub state : state_of new ≡ (value_type by r init (state_of old)).1
    pub group : Annotated x ts old.row new.row to (value_type by r init (state_of old)).0

  -- a declarator is written without a value
  abbrev pub Bare : List ChangedEntry → List ChangedEntry → Range → Bool → Pat → Type 0
  Bare old new r definite pat = Puts x ts declarator_in old new (declarator_by r definite None pat)

  -- one declarator is written, as the rules have it
  abbrev pub DeclaratorMade : rules.Env → Draft → Draft → VarDeclarator → Type 0
  DeclaratorMade by old new it = Made x ts declarator_in (shown_declarator by) old new it

  -- the same of a name without a type, which is this token
  abbrev pub NameMade : rules.Env → Draft → Draft → Range → ℕ → Value → Bool → Option (Option Expr) → Type 0
  NameMade by old new r at name definite value =
      marked_in name ≡ marked_view.ident x (slice_get ts at)
      → IfThere (λ m. IfThere (λ init.
      DeclaratorMade by old new (declarator_by r definite init (m false None (named_range ts name nil)))) value)
      (marked_in name)
