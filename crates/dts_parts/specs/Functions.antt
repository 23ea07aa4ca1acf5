-- Functions as declarations have them.
use Rattle.std.specs.Prelude.{◌≡◌, ℕ, Bool, true, false, List, [], ◌∷◌, Option, Some, None}
use Rattle.base.specs.declared.range.Range.{Range}
use Rattle.es_token.specs.declared.token.Token.{Token}
use Rattle.es_ast.specs.declared.ast.Decl.TheVariants as vDecl
use Rattle.es_ast.specs.declared.ast.Function.{Function}
use Rattle.es_ast.specs.declared.ast.Param.{Param}
use Rattle.es_lowering.specs.Value.{Value, Signature, as_group}
use Rattle.es_lowering.specs.TypedParts.{body_in}
use Rattle.es_grammar.specs.declared.rows.NodeKind.{NodeKind}
use Rattle.es_grammar.specs.declared.rows.NodeKind.TheVariants as l
use Rattle.es_syntax.specs.Roles.{declarable_in, decl_in, params_in, signature_in}
use Rattle.es_changed.specs.declared.entry.ChangedEntry.{ChangedEntry}
use Rattle.es_changed.specs.Shape.{Writes}
use Rattle.dts_rules.specs.Rules as rules
use Rattle.dts_rules.specs.Rules.{Run, State, after, give, in_turn}
use Rattle.dts_rules.specs.Programs.{shown_function}
use Rattle.dts_draft.specs.declared.draft.Draft.{Draft}
use Rattle.dts_draft.specs.Drafts.{state_of}
use Rattle.dts_draft.specs.Written.{IfThere}
use Rattle.dts_names.specs.declared.env.Env.{Env}
use Rattle.dts_names.specs.Names.{Knows}
use Rattle.dts_parts.specs.Params.{param_rule, Made}

-- parameters by the rules, or as they are
abbrev pub params_rule : rules.Env → Bool → List Param → Run (List Param)
params_rule by true params = in_turn (param_rule by) params
params_rule by false params = give params

-- what is before the body of a function
abbrev pub signature_rule : rules.Env → Bool → Signature → Run Signature
signature_rule by ruled sig s = after (λ params. (sig.0, params, sig.2)) (params_rule by ruled sig.1 s)

-- the parameters of a function without types
abbrev pub plain_rule : rules.Env → Bool → List Param → Run Signature
plain_rule by ruled params s = after (λ params. (None, params, None)) (params_rule by ruled params s)

module _ (x : List ℕ) (ts : List Token) where
  -- no body
  pub record Bodyless (old new : List ChangedEntry) : Type 0 where
    pub value : Value
    pub writes : Writes x ts old new (value ∷ [])
    pub is : body_in (as_group value) ≡ Some None

  -- a function is written without its body
  pub record FunctionMade (by : rules.Env) (ruled : Bool) (old new : Draft) (span : Range) (before : Function) : Type 0 where
    pub value : Value
    pub writes : Writes x ts old.row new.row (value ∷ [])
    pub it : Function
    pub bare : (shown_function by before).bare ruled false (state_of old) ≡ (it, state_of new)
    pub declarable : declarable_in value ≡ Some (λ declare r. vDecl.Fn declare it r)
    pub decl : decl_in value ≡ Some (vDecl.Fn false it span)

-- functions of TypeScript, with `async` or not
abbrev pub typed_label : Bool → NodeKind
typed_label true = l.TypedAsyncFunction
typed_label false = l.TypedFunction

-- ---- by whatever the rules go
abbrev pub RuledMade : Env → Bool → Draft → Draft → Option (List Param) → Type 0
RuledMade it ruled old new o =
    (by : rules.Env) → Knows it by
    → IfThere (Made it.text.now it.tokens.now params_in (params_rule by ruled) old new) o

abbrev pub SignatureMade : Env → Bool → Draft → Draft → Option Signature → Type 0
SignatureMade it ruled old new o =
    (by : rules.Env) → Knows it by
    → IfThere (Made it.text.now it.tokens.now signature_in (signature_rule by ruled) old new) o

abbrev pub PlainMade : Env → Bool → Draft → Draft → Option (List Param) → Type 0
PlainMade it ruled old new o =
    (by : rules.Env) → Knows it by
    → IfThere (Made it.text.now it.tokens.now signature_in (plain_rule by ruled) old new) o

abbrev pub FunctionBy : Env → Bool → Draft → Draft → Range → Option Function → Type 0
FunctionBy it ruled old new span o =
    (by : rules.Env) → Knows it by
    → IfThere (FunctionMade it.text.now it.tokens.now by ruled old new span) o
