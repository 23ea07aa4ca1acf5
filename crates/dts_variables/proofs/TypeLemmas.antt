-- What is written of types by values.
use Rattle.std.specs.Prelude.{ℕ, false, true, List, ◌++◌, Option, Some, None, length}
use Rattle.std.proofs.Common.{◌≡◌, ap, ◌∙◌}
use Rattle.base.specs.declared.range.Range.{Range}
use Rattle.es_token.specs.declared.token.Token.{Token}
use Rattle.es_ast.specs.declared.ast.Expr.{Expr}
use Rattle.es_syntax.specs.declared.entry.What.TheVariants as vWhat
use Rattle.es_changed.specs.declared.entry.Change.TheVariants as change
use Rattle.es_changed.specs.declared.entry.Form.TheVariants as form
use Rattle.es_changed.specs.Shape.{closed, opened}
use Rattle.dts_rules.specs.declared.found.FoundKind.TheVariants as kind
use Rattle.dts_rules.specs.Rules as rules
use Rattle.dts_rules.specs.Rules.{State}
use Rattle.dts_draft.specs.declared.draft.Draft.{Draft}
use Rattle.dts_draft.specs.Drafts.{state_of}
use Rattle.dts_draft.specs.Written.{IfThere}
use Rattle.dts_types.specs.Types.{OrAny}
use Rattle.dts_types.specs.declared.ask.Ask.{Ask}
use Rattle.dts_parts.proofs.GroupLemmas.{typed_group}
use Rattle.dts_variables.specs.Declarators.{value_type, Typed}

module _ (x : List ℕ) (ts : List Token) (by : rules.Env) where
  abbrev Fixed : Ask
  Fixed = record { literal = false; readonly = true; frozen = false }

  pub inferred : (old outer inner filled closed_ new : Draft) (spot place to : ℕ) (range : Range) (o : Option Expr)
      → outer.row ≡ old.row ++ opened → spot ≡ length old.row → inner.row ≡ outer.row ++ opened
      → place ≡ length outer.row → state_of inner ≡ state_of old
      → IfThere (OrAny x ts by kind.UnableToInferTypeFallbackAny range Fixed inner filled) o
      → closed_.row ≡ closed (change.Form form.Annotation) to to place filled.row
      → new.row ≡ closed (change.Old vWhat.Parts) 0 0 spot closed_.row → state_of new ≡ state_of filled
      → IfThere (λ e. Typed x ts by old new to range (Some e)) o
  inferred old outer inner filled closed_ new spot place to range None eo es ei ep si h ec en sn = record { is = tt }
  inferred old outer inner filled closed_ new spot place to range (Some e) eo es ei ep si h ec en sn = record {
    is = record {
      state = sn ∙ (h.is.state ∙ ap (λ (s : State). (value_type by range (Some e) s).1) si);
      group = typed_group x ts old.row outer.row inner.row filled.row closed_.row new.row spot place to
          h.is.puts.value (value_type by range (Some e) (state_of old)).0 eo es ei ep h.is.puts.writes
          (h.is.puts.is ∙ ap (λ (s : State). Some (value_type by range (Some e) s).0) si) ec en;
    };
  }
