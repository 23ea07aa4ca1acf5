-- What is written of an expression: the type that the rules have it to be, with what was found on the way.
use Rattle.std.specs.Prelude.{◌≡◌, ℕ, ◌+◌, Bool, true, false, List, [], ◌∷◌, ◌++◌, Option, Some, None, option_map, map, fold, slice_get, IfSome}
use Rattle.base.specs.declared.range.Range.{Range}
use Rattle.es_token.specs.declared.token.Token.{Token}
use Rattle.es_ast.specs.declared.ts.ts.TsFnParam.{TsFnParam}
use Rattle.es_ast.specs.declared.ts.ts.TsTupleElement.{TsTupleElement}
use Rattle.es_ast.specs.declared.ts.ts.TsType.{TsType}
use Rattle.es_ast.specs.declared.ts.ts.TsPart.{TsPart}
use Rattle.es_ast.specs.declared.ts.ts.TsTypeElement.{TsTypeElement, out-TsTypeElement}
use Rattle.es_ast.specs.declared.ts.ts.TsType.TheVariants as vType
use Rattle.es_ast.specs.declared.ast.Expr.{Expr}
use Rattle.es_ast.specs.declared.ast.Param.{Param}
use Rattle.es_ast.specs.declared.ast.Pat.{Pat, out-Pat}
use Rattle.es_ast.specs.declared.ast.Prop.{Prop}
use Rattle.es_ast.specs.declared.ast.ClassMember.TheOpen.{Pat-F}
use Rattle.es_site.specs.Parts.{Whole}
use Rattle.es_lowering.specs.Value.{Value, Signature, as_group, given, optional, type_params_at}
use Rattle.es_syntax.specs.Roles.{element_in, fn_param_in, fn_params_in, ts_type_in, type_member_in}
use Rattle.es_changed.specs.declared.entry.Form.{Form}
use Rattle.es_changed.specs.declared.entry.Form.TheVariants as form
use Rattle.es_changed.specs.declared.entry.ChangedEntry.{ChangedEntry}
use Rattle.es_changed.specs.Shape.{Writes}
use Rattle.dts_rules.specs.declared.found.FoundKind.{FoundKind}
use Rattle.dts_rules.specs.Made.{nowhere, frozen_member_by}
use Rattle.dts_rules.specs.Rules as rules
use Rattle.dts_rules.specs.Rules.{Shown, Sort, State, Typing, or_any, after, if_frozen, element_step, in_turn, some, type_params_in, or_any_type}
use Rattle.dts_rules.specs.Sets.{type_in}
use Rattle.dts_rules.specs.Programs.{shown_expr, shown_param, shown_prop}
use Rattle.dts_draft.specs.declared.draft.Draft.{Draft}
use Rattle.dts_draft.specs.Drafts.{state_of}
use Rattle.dts_draft.specs.Written.{IfThere, Puts, PutsAll}
use Rattle.dts_names.specs.declared.env.Env.{Env}
use Rattle.dts_names.specs.Names.{Knows}
use Rattle.dts_types.specs.declared.ask.Ask.{Ask}

-- what is asked for: the type, or that of the frozen value
abbrev pub by_frozen : Bool → Option TsType × State → Option TsType × State
by_frozen true p = after if_frozen p
by_frozen false p = p

abbrev pub asked : rules.Env → Ask → Expr → Typing
asked env ask e s = by_frozen ask.frozen ((shown_expr env e).rule ask.literal ask.readonly s)

-- a property where the value is frozen: it is `readonly`
abbrev pub frozen_prop : Bool → Option TsTypeElement → Option TsTypeElement
frozen_prop true o = given o (λ m. frozen_member_by (out-TsTypeElement m))
frozen_prop false o = o

abbrev pub prop_step : rules.Env → Ask → Prop → State → Option TsTypeElement × State
prop_step env ask p s = after (frozen_prop ask.frozen) (shown_prop env p ask.literal ask.readonly s)

-- a parameter of a function as one of its type; a pattern with a default, of which this is the pattern
abbrev pub param_step : rules.Env → Param → State → Option TsFnParam × State
param_step env p = (shown_param env p).as_type

abbrev pub default_step : rules.Env → Whole Pat-F → Expr → State → Option TsFnParam × State
default_step env left e s = rules.defaulted env left ((shown_expr env e).rule false false s)

-- a tuple of these elements
abbrev pub tuple_of : rules.Env → Ask → List Expr → State → Option TsType × State
tuple_of env ask es s =
    after (option_map (λ els. vType.Tuple els nowhere))
    (fold (element_step ask.literal ask.readonly) (Some [], s) (map (λ (e : Expr). (e, shown_expr env e)) es))

-- neither a hole nor an element behind `...`
abbrev pub IsPlain : rules.Env → Expr → Type 0
IsPlain env e = (shown_expr env e).sort ≡ Sort.plain

-- the form of a property, `readonly` or not
abbrev pub property_form : Bool → Form
property_form true = form.ReadonlyProperty
property_form false = form.Property

module _ (x : List ℕ) (ts : List Token) where
  -- whether a type is written; where there is none, nothing is
  abbrev pub Answers : Draft → Draft → Bool → Option TsType × State → Type 0
  Answers old new wrote (Some ty, s) = (wrote ≡ true) × (state_of new ≡ s) × Puts x ts ts_type_in old.row new.row ty
  Answers old new wrote (None, s) = (wrote ≡ false) × (state_of new ≡ s) × Writes x ts old.row new.row []

  abbrev pub Infers : rules.Env → Ask → Draft → Draft → Bool → Expr → Type 0
  Infers env ask old new wrote e = Answers old new wrote (asked env ask e (state_of old))

  -- what stands behind `...` in an array
  abbrev pub Rests : rules.Env → Bool → Draft → Draft → Bool → Expr → Type 0
  Rests env literal old new wrote e = Answers old new wrote ((shown_expr env e).rest literal (state_of old))

  -- ---- arrays
  -- something is written
  pub record Something (row now : List ChangedEntry) : Type 0 where
    pub values : List Value
    pub writes : Writes x ts row now values

  -- these elements are written, where there is a type yet
  abbrev pub Has : List ChangedEntry → Draft → Bool → Option (List TsTupleElement) × State → Type 0
  Has row new going (Some els, s) = (going ≡ true) × (state_of new ≡ s) × PutsAll x ts element_in row new.row els
  Has row new going (None, s) = (going ≡ false) × (state_of new ≡ s) × Something row new.row

  -- whatever was written before, an element more is, where there is a type with it
  abbrev pub Steps : rules.Env → Ask → Draft → Draft → Bool → Expr → Type 0
  Steps env ask old new going e =
      (row : List ChangedEntry) (before : Option (List TsTupleElement) × State) → Has row old true before
      → Has row new going (element_step ask.literal ask.readonly before (e, shown_expr env e))

  abbrev pub AllStep : rules.Env → Ask → Draft → Draft → Bool → List Expr → Type 0
  AllStep env ask old new going es =
      (row : List ChangedEntry) (before : Option (List TsTupleElement) × State) → Has row old true before
      → Has row new going (fold (element_step ask.literal ask.readonly) before (map (λ (e : Expr). (e, shown_expr env e)) es))

  -- a type is written, or `any` with what was found
  pub record OrAny (env : rules.Env) (kind : FoundKind) (range : Range) (ask : Ask) (old new : Draft) (e : Expr) : Type 0 where
    pub state : state_of new ≡ (or_any kind range ((shown_expr env e).rule ask.literal ask.readonly (state_of old))).1
    pub puts : Puts x ts ts_type_in old.row new.row
        (or_any kind range ((shown_expr env e).rule ask.literal ask.readonly (state_of old))).0

  -- ---- objects and functions: what is made in turn of each part, where it is something
  pub record Turned {A B : Type 0} (role : Value → Option B) (f : A → State → Option B × State) (old new : Draft) (it : A)
      : Type 0 where
    pub state : state_of new ≡ (f it (state_of old)).1
    pub puts : PutsAll x ts role old.row new.row (some ((f it (state_of old)).0 ∷ []))

  pub record InTurn {A B : Type 0} (role : Value → Option B) (f : A → State → Option B × State) (old new : Draft)
      (them : List A) : Type 0 where
    pub state : state_of new ≡ (in_turn f them (state_of old)).1
    pub puts : PutsAll x ts role old.row new.row (some (in_turn f them (state_of old)).0)

  -- type parameters, or none, as a group
  pub record ParamsGroup (old new : List ChangedEntry) (part : Option TsPart) : Type 0 where
    pub value : Value
    pub writes : Writes x ts old new (value ∷ [])
    pub is : optional type_params_at (as_group value) ≡ Some (type_params_in part)

  -- the parameters of a function's type
  pub record AreParams (env : rules.Env) (old new : Draft) (params : List Param) : Type 0 where
    pub state : state_of new ≡ (in_turn (param_step env) params (state_of old)).1
    pub puts : Puts x ts fn_params_in old.row new.row (some (in_turn (param_step env) params (state_of old)).0)

  -- the type of a function: its type parameters, its parameters, its result
  pub record IsFunction (env : rules.Env) (old new : Draft) (it : Signature) : Type 0 where
    pub state : state_of new ≡ (in_turn (param_step env) it.1 (state_of old)).1
    pub puts : Puts x ts ts_type_in old.row new.row
        (vType.Fn (type_params_in it.0) (some (in_turn (param_step env) it.1 (state_of old)).0) (or_any_type (type_in it.2))
        nowhere)

-- ---- of a program, by whatever the rules go
abbrev pub Inferred : Env → Ask → Draft → Draft → Bool → Option Expr → Type 0
Inferred it ask old new wrote o =
    (by : rules.Env) → Knows it by → IfThere (Infers it.text.now it.tokens.now by ask old new wrote) o

abbrev pub RestInferred : Env → Bool → Draft → Draft → Bool → Option Expr → Type 0
RestInferred it literal old new wrote o =
    (by : rules.Env) → Knows it by → IfThere (Rests it.text.now it.tokens.now by literal old new wrote) o

abbrev pub Stepped : Env → Ask → Draft → Draft → Bool → Option Expr → Type 0
Stepped it ask old new going o =
    (by : rules.Env) → Knows it by → IfThere (Steps it.text.now it.tokens.now by ask old new going) o

abbrev pub PropTurned : Env → Ask → Draft → Draft → Option Prop → Type 0
PropTurned it ask old new o =
    (by : rules.Env) → Knows it by
    → IfThere (Turned it.text.now it.tokens.now type_member_in (prop_step by ask) old new) o

abbrev pub ParamTurned : Env → Draft → Draft → Option Param → Type 0
ParamTurned it old new o =
    (by : rules.Env) → Knows it by → IfThere (Turned it.text.now it.tokens.now fn_param_in (param_step by) old new) o

abbrev pub OrAnyInferred : Env → FoundKind → Range → Ask → Draft → Draft → Option Expr → Type 0
OrAnyInferred it kind range ask old new o =
    (by : rules.Env) → Knows it by → IfThere (OrAny it.text.now it.tokens.now by kind range ask old new) o

-- ---- functions
abbrev pub ParamsBy : Env → Draft → Draft → Option (List Param) → Type 0
ParamsBy it old new o = (by : rules.Env) → Knows it by → IfThere (AreParams it.text.now it.tokens.now by old new) o

abbrev pub FunctionBy : Env → Draft → Draft → Option (List Param) → Type 0
FunctionBy it old new o =
    (by : rules.Env) → Knows it by
    → IfThere (λ params. IsFunction it.text.now it.tokens.now by old new (None, params, None)) o

abbrev pub TypedBy : Env → Draft → Draft → Option Signature → Type 0
TypedBy it old new o = (by : rules.Env) → Knows it by → IfThere (IsFunction it.text.now it.tokens.now by old new) o
