-- Words, strings, regular expressions and templates.
use Rattle.std.specs.Prelude.{ℕ, ◌+◌, Bool, true, false, List, [], ◌∷◌, Option, Some, None, option_map, if◌then◌else◌, slice_get}
use Rattle.std.proofs.Common.{◌≡◌, refl, sym, ap, subst, ◌∙◌}
use Rattle.std.proofs.lemmas.Bool.{true≢false}
use denote.Enum.Bare.{same_true}
use Rattle.base.specs.declared.range.Range.{Range}
use Rattle.es_token.specs.contracts.token.TokenKind.{the_type}
use Rattle.es_token.specs.declared.token.Token.{Token}
use Rattle.es_token.specs.declared.token.TokenKind.{TokenKind}
use Rattle.es_token.specs.declared.token.TokenKind.TheVariants as k
use Rattle.grammar_theory.specs.Key.{same_kind}
use Rattle.es_grammar.specs.declared.rows.NodeKind.TheVariants as l
use Rattle.es_ast.specs.declared.ts.leaf.TsLit.TheVariants as vTsLit
use Rattle.es_ast.specs.declared.ts.leaf.TplElement.{TplElement}
use Rattle.es_ast.specs.declared.ts.ts.TsType.TheVariants as vType
use Rattle.es_ast.specs.declared.leaf.Lit.TheVariants as vLit
use Rattle.es_ast.specs.declared.ast.Expr.{Expr}
use Rattle.es_ast.specs.declared.ast.Expr.TheVariants as vExpr
use Rattle.es_lowering.specs.Value.{Value, token, nil, given}
use Rattle.es_lowering.specs.Texts.{span_of, str_of, regex_of}
use Rattle.es_lowering.specs.Expressions.{word_of}
use Rattle.es_lowering.specs.Types as types
use Rattle.es_lowering.specs.Lowering.{packed, build, type_of}
use Rattle.es_syntax.specs.Held.{node_of}
use Rattle.es_syntax.specs.Roles.{ts_type_in}
use Rattle.es_changed.specs.declared.entry.Form.TheVariants as form
use Rattle.es_changed.specs.declared.entry.Word.{Word}
use Rattle.es_changed.specs.declared.entry.Word.TheVariants as word
use Rattle.es_changed.specs.declared.entry.ChangedEntry.{ChangedEntry}
use Rattle.es_changed.specs.Formed.{formed, word_type}
use Rattle.es_changed.specs.Changed.{type_node}
use Rattle.es_changed.specs.Shape.{Writes}
use Rattle.es_changed.proofs.Written.{nothing_written, both_written}
use Rattle.es_view_expressions.specs.expr.Primary as primary
use Rattle.dts_rules.specs.Rules.{Env}
use Rattle.dts_draft.specs.Drafts.{is_kind}
use Rattle.dts_draft.specs.Written.{IfThere, Puts}
use Rattle.dts_draft.proofs.There.{made}
use Rattle.dts_leaves.specs.Leaves.{HasType, IsTemplate, OwnOrWide}
use Rattle.dts_leaves.proofs.Shown.{lit_has, this_has, template_by, own_or_wide}

module _ (x : List ℕ) (ts : List Token) where
  -- ---- a literal of its own type, or of the wide one
  pub own_by : {c : Bool} {old mid new : List ChangedEntry} {own : Value} (wide : Word) → c ≡ true
      → Writes x ts old mid [] → Writes x ts mid new (own ∷ []) → OwnOrWide x ts c old new own wide
  own_by {c = c} {old = old} {mid = mid} {new = new} {own = own} wide e gone w =
      subst (λ c. OwnOrWide x ts c old new own wide) (sym e) (both_written x ts old mid new [] (own ∷ []) gone w)

  pub wide_by : {c : Bool} {old new : List ChangedEntry} (wide : Word) (own : Value) → c ≡ false
      → Writes x ts old new (type_node 0 0 (Some (word_type wide)) ∷ []) → OwnOrWide x ts c old new own wide
  wide_by {c = c} {old = old} {new = new} wide own e w = subst (λ c. OwnOrWide x ts c old new own wide) (sym e) w

  -- ---- what written nodes are
  word_node : (at from to : ℕ) → ts_type_in (node_of x ts l.WordType from to (packed (token at ∷ [])))
      ≡ given (option_map (λ t. t.kind) (slice_get ts at)) (types.word_of (span_of ts from to))
  unfolding build type_of types.word_type
  word_node at from to = refl

  str_node : (at from to : ℕ) → ts_type_in (node_of x ts l.StrType from to (packed (token at ∷ [])))
      ≡ option_map (λ s. vType.Lit (vTsLit.Str s)) (option_map (str_of x) (slice_get ts at))
  unfolding build type_of types.str_type
  str_node at from to = refl

-- the kind of a token that is there
pub kind_of : (kind : TokenKind) (t : Token) → is_kind kind (Some t) ≡ true → t.kind ≡ kind
kind_of kind t e = same_true the_type tt t.kind kind e

module _ (env : Env) (x : List ℕ) (ts : List Token) where
  -- ---- words
  pub null_has : {c : Bool} {old new : List ChangedEntry} (at : ℕ) (r : Range)
      → is_kind k.NullWord (slice_get ts at) ≡ true
      → Writes x ts old new (type_node 0 0 (Some (word_type word.Null)) ∷ [])
      → IfThere (HasType env x ts c true old new) (primary.word r (slice_get ts at))
  unfolding primary.word word_of
  null_has {c = c} {old = old} {new = new} at r e w = go (slice_get ts at) e
    where
      go : (o : Option Token) → is_kind k.NullWord o ≡ true
          → IfThere (HasType env x ts c true old new) (given (option_map (λ t. t.kind) o) (word_of r))
      go None e = record { is = tt }
      go (Some t) e =
          subst (λ kind. IfThere (HasType env x ts c true old new) (word_of r kind)) (sym (kind_of k.NullWord t e))
          (record {
            is = lit_has env x ts c true old new (vLit.Null r) (
              refl,
              record { value = type_node 0 0 (Some (word_type word.Null)); writes = w; is = refl },
            );
          })

  bool_has : (c b : Bool) (kind : TokenKind) (old new : List ChangedEntry) (at from to : ℕ)
      → word_of (span_of ts from to) kind ≡ Some (vExpr.Lit (vLit.Bool b (span_of ts from to)))
      → types.word_of (span_of ts from to) kind ≡ Some (vType.Lit (vTsLit.Bool b (span_of ts from to)))
      → is_kind kind (slice_get ts at) ≡ true
      → OwnOrWide x ts c old new (node_of x ts l.WordType from to (packed (token at ∷ []))) word.Boolean
      → IfThere (HasType env x ts c true old new) (primary.word (span_of ts from to) (slice_get ts at))
  unfolding primary.word
  bool_has c b kind old new at from to ev et e w = go (slice_get ts at) refl e
    where
      go : (o : Option Token) → slice_get ts at ≡ o → is_kind kind o ≡ true
          → IfThere (HasType env x ts c true old new)
          (given (option_map (λ t. t.kind) o) (word_of (span_of ts from to)))
      go None is e = record { is = tt }
      go (Some t) is e =
          subst (λ (o : Option Expr). IfThere (HasType env x ts c true old new) o)
          (sym (ap (word_of (span_of ts from to)) (kind_of kind t e) ∙ ev)) (record {
            is = lit_has env x ts c true old new (vLit.Bool b (span_of ts from to)) (
              refl,
              own_or_wide x ts c old new _ word.Boolean _
                  (word_node x ts at from to
                  ∙ (ap (λ o. given (option_map (λ t. t.kind) o) (types.word_of (span_of ts from to))) is
                  ∙ (ap (types.word_of (span_of ts from to)) (kind_of kind t e) ∙ et))) w,
            );
          })

  true_word : (r : Range) → word_of r k.TrueWord ≡ Some (vExpr.Lit (vLit.Bool true r))
  unfolding word_of
  true_word r = refl

  true_type : (r : Range) → types.word_of r k.TrueWord ≡ Some (vType.Lit (vTsLit.Bool true r))
  unfolding types.word_of
  true_type r = refl

  false_word : (r : Range) → word_of r k.FalseWord ≡ Some (vExpr.Lit (vLit.Bool false r))
  unfolding word_of
  false_word r = refl

  false_type : (r : Range) → types.word_of r k.FalseWord ≡ Some (vType.Lit (vTsLit.Bool false r))
  unfolding types.word_of
  false_type r = refl

  pub true_has : {c : Bool} {old new : List ChangedEntry} (at from to : ℕ) → is_kind k.TrueWord (slice_get ts at) ≡ true
      → OwnOrWide x ts c old new (node_of x ts l.WordType from to (packed (token at ∷ []))) word.Boolean
      → IfThere (HasType env x ts c true old new) (primary.word (span_of ts from to) (slice_get ts at))
  true_has {c = c} {old = old} {new = new} at from to e w =
      bool_has c true k.TrueWord old new at from to (true_word (span_of ts from to)) (true_type (span_of ts from to)) e
      w

  pub false_has : {c : Bool} {old new : List ChangedEntry} (at from to : ℕ)
      → is_kind k.FalseWord (slice_get ts at) ≡ true
      → OwnOrWide x ts c old new (node_of x ts l.WordType from to (packed (token at ∷ []))) word.Boolean
      → IfThere (HasType env x ts c true old new) (primary.word (span_of ts from to) (slice_get ts at))
  false_has {c = c} {old = old} {new = new} at from to e w =
      bool_has c false k.FalseWord old new at from to (false_word (span_of ts from to))
      (false_type (span_of ts from to)) e w

  -- `this`, and what is no such word
  other_by : (c : Bool) (old : List ChangedEntry) (r : Range) (this null y n : Bool) → null ≡ false → y ≡ false
      → n ≡ false → IfThere (HasType env x ts c false old old)
      (if this then Some (vExpr.This r) else (if null then Some (vExpr.Lit (vLit.Null r))
      else (if y then Some (vExpr.Lit (vLit.Bool true r)) else
      (if n then Some (vExpr.Lit (vLit.Bool false r)) else None))))
  other_by c old r true null y n en ey ef = record { is = this_has env x ts c old r (nothing_written x ts old) }
  other_by c old r false true y n en ey ef = absurd (true≢false en)
  other_by c old r false false true n en ey ef = absurd (true≢false ey)
  other_by c old r false false false true en ey ef = absurd (true≢false ef)
  other_by c old r false false false false en ey ef = record { is = tt }

  pub other_has_none : {c : Bool} {old : List ChangedEntry} (at : ℕ) (r : Range)
      → is_kind k.NullWord (slice_get ts at) ≡ false → is_kind k.TrueWord (slice_get ts at) ≡ false
      → is_kind k.FalseWord (slice_get ts at) ≡ false
      → IfThere (HasType env x ts c false old old) (primary.word r (slice_get ts at))
  unfolding primary.word word_of
  other_has_none {c = c} {old = old} at r en ey ef = go (slice_get ts at) en ey ef
    where
      go : (o : Option Token) → is_kind k.NullWord o ≡ false → is_kind k.TrueWord o ≡ false
          → is_kind k.FalseWord o ≡ false
          → IfThere (HasType env x ts c false old old) (given (option_map (λ t. t.kind) o) (word_of r))
      go None en ey ef = record { is = tt }
      go (Some t) en ey ef =
          other_by c old r (same_kind t.kind k.ThisWord) (same_kind t.kind k.NullWord) (same_kind t.kind k.TrueWord)
          (same_kind t.kind k.FalseWord) en ey ef

  -- ---- strings
  str_has : (c : Bool) (old new : List ChangedEntry) (at : ℕ)
      → OwnOrWide x ts c old new (node_of x ts l.StrType at (at + 1) (packed (token at ∷ []))) word.String
      → IfThere (HasType env x ts c true old new) (primary.str x (slice_get ts at))
  unfolding primary.str
  str_has c old new at w = go (slice_get ts at) refl
    where
      go : (o : Option Token) → slice_get ts at ≡ o
          → IfThere (HasType env x ts c true old new) (option_map (λ t. vExpr.Lit (vLit.Str (str_of x t))) o)
      go None is = record { is = tt }
      go (Some t) is = record {
        is = lit_has env x ts c true old new (vLit.Str (str_of x t)) (
          refl,
          own_or_wide x ts c old new _ word.String _
              (str_node x ts at at (at + 1)
              ∙ ap (λ o. option_map (λ s. vType.Lit (vTsLit.Str s)) (option_map (str_of x) o)) is) w,
        );
      }

  pub str_own : {c : Bool} {old mid new : List ChangedEntry} {at : ℕ} → c ≡ true → Writes x ts old mid []
      → Writes x ts mid new (node_of x ts l.StrType at (at + 1) (packed (token at ∷ [])) ∷ [])
      → IfThere (HasType env x ts c true old new) (primary.str x (slice_get ts at))
  str_own {c = c} {old = old} {mid = mid} {new = new} {at = at} e gone w =
      str_has c old new at (own_by x ts word.String e gone w)

  pub str_wide : {c : Bool} {old new : List ChangedEntry} (at : ℕ) → c ≡ false
      → Writes x ts old new (type_node 0 0 (Some (word_type word.String)) ∷ [])
      → IfThere (HasType env x ts c true old new) (primary.str x (slice_get ts at))
  str_wide {c = c} {old = old} {new = new} at e w = str_has c old new at (wide_by x ts word.String _ e w)

  -- ---- regular expressions and templates
  pub regexp_has : {old new : List ChangedEntry} (c : Bool) (o : Option Token)
      → Writes x ts old new (formed x ts form.RegExp 0 0 nil ∷ [])
      → IfThere (HasType env x ts c true old new) (primary.regexp x o)
  unfolding primary.regexp
  regexp_has {old = old} {new = new} c None w = record { is = tt }
  regexp_has {old = old} {new = new} c (Some t) w = record {
    is = lit_has env x ts c true old new (vLit.Regex (regex_of x t)) (
      refl,
      record { value = formed x ts form.RegExp 0 0 nil; writes = w; is = refl },
    );
  }

  pub template_has : {old new : List ChangedEntry} (c : Bool)
      → Writes x ts old new (type_node 0 0 (Some (word_type word.String)) ∷ []) → IsTemplate env x ts c old new
  template_has {old = old} {new = new} c w pieces holes span =
      template_by env x ts c old new pieces holes span (word_type word.String) (λ r s. refl)
      (record { value = type_node 0 0 (Some (word_type word.String)); writes = w; is = refl })
