-- Variables as declarations have them.
use Rattle.std.specs.Prelude.{◌≡◌, ℕ, Bool, true, false, List, [], ◌∷◌, Option, Some}
use Rattle.base.specs.declared.range.Range.{Range}
use Rattle.es_token.specs.declared.token.Token.{Token}
use Rattle.es_ast.specs.declared.ast.Decl.TheVariants as vDecl
use Rattle.es_lowering.specs.Value.{Value}
use Rattle.es_lowering.specs.Statements.{Variables}
use Rattle.es_syntax.specs.Roles.{decl_in, variables_in}
use Rattle.es_changed.specs.Shape.{Writes}
use Rattle.dts_rules.specs.Rules as rules
use Rattle.dts_rules.specs.Rules.{is_plain_const}
use Rattle.dts_rules.specs.Programs.{shown_decl}
use Rattle.dts_draft.specs.declared.draft.Draft.{Draft}
use Rattle.dts_draft.specs.Drafts.{state_of}
use Rattle.dts_draft.specs.Written.{IfThere}
use Rattle.dts_names.specs.declared.env.Env.{Env}
use Rattle.dts_names.specs.Names.{Knows}

module _ (x : List ℕ) (ts : List Token) where
  -- `var`, `let` or `const` are written, as the rules have their declaration on the top and elsewhere, after `declare` or not
  pub record VariablesMade (by : rules.Env) (old new : Draft) (span : Range) (before : Variables) : Type 0 where
    pub value : Value
    pub writes : Writes x ts old.row new.row (value ∷ [])
    pub it : Variables
    pub variables : variables_in value ≡ Some it
    pub decl : decl_in value ≡ Some (vDecl.Var false it.0 it.1 span)
    pub plain : is_plain_const before.0 ≡ true
    pub declared : (declare top : Bool) (r : Range)
        → (shown_decl by (vDecl.Var declare before.0 before.1 r)).declared top (state_of old)
        ≡ (Some (vDecl.Var top it.0 it.1 r), state_of new)

-- by whatever the rules go
abbrev pub VariablesBy : Env → Draft → Draft → Range → Option Variables → Type 0
VariablesBy it old new span o =
    (by : rules.Env) → Knows it by
    → IfThere (VariablesMade it.text.now it.tokens.now by old new span) o
