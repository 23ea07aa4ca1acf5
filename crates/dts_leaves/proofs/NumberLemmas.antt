-- Numbers and BigInts, behind `-` or not.
use Rattle.std.specs.Prelude.{ℕ, suc, ◌+◌, ◌==◌, Bool, true, false, List, [], ◌∷◌, ◌++◌, Option, Some, None, option_map, if◌then◌else◌, length, slice_get}
use Rattle.std.proofs.Common.{rules, arith, ◌≡◌, refl, sym, ap, subst, ◌∙◌}
use Rattle.std.proofs.lemmas.Bool.{true≢false}
use denote.Enum.Bare.{same_true}
use Rattle.base.specs.declared.range.Range.{Range}
use Rattle.es_token.specs.contracts.token.TokenKind.{the_type}
use Rattle.es_token.specs.declared.token.Token.{Token}
use Rattle.es_token.specs.declared.token.TokenKind.{TokenKind}
use Rattle.es_token.specs.declared.token.TokenKind.TheVariants as k
use Rattle.grammar_theory.specs.Key.{same_kind}
use Rattle.es_grammar.specs.declared.rows.NodeKind.TheVariants as l
use Rattle.es_ast.specs.declared.ts.leaf.TsLit.{TsLit}
use Rattle.es_ast.specs.declared.ts.leaf.TsLit.TheVariants as vTsLit
use Rattle.es_ast.specs.declared.ts.ts.TsType.{TsType}
use Rattle.es_ast.specs.declared.ts.ts.TsType.TheVariants as vType
use Rattle.es_ast.specs.declared.leaf.Lit.{Lit}
use Rattle.es_ast.specs.declared.leaf.Lit.TheVariants as vLit
use Rattle.es_ast.specs.declared.ast.Expr.{Expr}
use Rattle.es_ast.specs.declared.ast.Expr.TheVariants as vExpr
use Rattle.es_lowering.specs.Value.{Value, token, nil, more, given, as_group, is_there}
use Rattle.es_lowering.specs.Texts.{span_of, end_before, end_of, start_of, numeric_of}
use Rattle.es_lowering.specs.TypeTexts.{number_of, big_of, numeric_lit}
use Rattle.es_lowering.specs.Types as types
use Rattle.es_lowering.specs.Lowering.{packed, build, type_of}
use Rattle.es_syntax.specs.declared.entry.What.TheVariants as what
use Rattle.es_syntax.specs.Held.{node_of}
use Rattle.es_syntax.specs.Roles.{ts_type_in}
use Rattle.es_changed.specs.declared.entry.Change.TheVariants as change
use Rattle.es_changed.specs.declared.entry.Word.TheVariants as word
use Rattle.es_changed.specs.declared.entry.ChangedEntry.{ChangedEntry}
use Rattle.es_changed.specs.Formed.{word_type}
use Rattle.es_changed.specs.Changed.{type_node}
use Rattle.es_changed.specs.Shape.{closed, opened, Writes}
use Rattle.es_changed.proofs.Written.{both_written, group_written, node_written}
use Rattle.es_view_expressions.specs.expr.Primary as primary
use Rattle.dts_rules.specs.Rules.{Env, numeric_type, lit_type, lit_span}
use Rattle.dts_draft.specs.Drafts.{is_kind}
use Rattle.dts_draft.specs.Written.{IfThere, Gives}
use Rattle.dts_draft.proofs.There.{lifted}
use Rattle.dts_leaves.specs.Leaves.{HasType, IsNumeric}
use Rattle.dts_leaves.proofs.Shown.{lit_has}

-- the token of a number is one of the two
pub data Numeric (x : List ℕ) (t : Token) : Option Lit → Type 0 where
  number : same_kind t.kind k.Number ≡ true → Numeric x t (Some (vLit.Num (number_of x t)))
  big : same_kind t.kind k.Number ≡ false → same_kind t.kind k.BigInt ≡ true
      → Numeric x t (Some (vLit.BigInt (big_of x t)))
  none : Numeric x t None

pub numeric : (x : List ℕ) (t : Token) → Numeric x t (numeric_of x t)
unfolding numeric_of number_of big_of
numeric x t = go (same_kind t.kind k.Number) (same_kind t.kind k.BigInt) refl refl
  where
    go : (a b : Bool) → same_kind t.kind k.Number ≡ a → same_kind t.kind k.BigInt ≡ b
        → Numeric x t (if a then Some (vLit.Num (number_of x t)) else
        (if b then Some (vLit.BigInt (big_of x t)) else None))
    go true b ea eb = number ea
    go false true ea eb = big ea eb
    go false false ea eb = none

-- a token spans its own bytes
pub token_span : (ts : List Token) (at : ℕ) (t : Token) → slice_get ts at ≡ Some t → span_of ts at (at + 1) ≡ t.range
unfolding span_of end_before
token_span ts at t e = go (at == at + 1) apart
  where
    apart : (at == at + 1) ≡ false
    apart = search rules

    up : at + 1 ≡ suc at
    up = omega arith

    last : end_before ts (at + 1) ≡ t.range.end
    last = ap (end_before ts) up ∙ ap end_of e

    go : (b : Bool) → b ≡ false
        → (if b then record { start = end_before ts at; end = end_before ts at }
        else record { start = start_of (slice_get ts at); end = end_before ts (at + 1) }) ≡ t.range
    go true f = absurd (true≢false f)
    go false f =
        ap (λ (o : Option Token). record { start = start_of o; end = end_before ts (at + 1) }) e
        ∙ ap (λ (n : ℕ). record { start = t.range.start; end = n }) last

module _ (x : List ℕ) (ts : List Token) where
  -- ---- wide
  pub big_wide : {old new : List ChangedEntry} (at : ℕ) (minus : Bool) (span : Range)
      → is_kind k.BigInt (slice_get ts at) ≡ true
      → Writes x ts old new (type_node 0 0 (Some (word_type word.BigInt)) ∷ [])
      → IfThere (IsNumeric x ts minus false span old new) (given (slice_get ts at) (numeric_of x))
  big_wide {old = old} {new = new} at minus span e w = go (slice_get ts at) e
    where
      by : (t : Token) → t.kind ≡ k.BigInt → (o : Option Lit) → Numeric x t o
          → IfThere (IsNumeric x ts minus false span old new) o
      by t is o (number a) =
          absurd (true≢false (sym a ∙ ap (λ kind. same_kind kind k.Number) is))
      by t is o (big a b) = record {
        is = (refl, record { value = type_node 0 0 (Some (word_type word.BigInt)); writes = w; is = refl });
      }
      by t is o none = record { is = tt }

      go : (o : Option Token) → is_kind k.BigInt o ≡ true
          → IfThere (IsNumeric x ts minus false span old new) (given o (numeric_of x))
      go None e = record { is = tt }
      go (Some t) e = by t (same_true the_type tt t.kind k.BigInt e) (numeric_of x t) (numeric x t)

  pub number_wide : {old new : List ChangedEntry} (at : ℕ) (minus : Bool) (span : Range)
      → is_kind k.BigInt (slice_get ts at) ≡ false
      → Writes x ts old new (type_node 0 0 (Some (word_type word.Number)) ∷ [])
      → IfThere (IsNumeric x ts minus false span old new) (given (slice_get ts at) (numeric_of x))
  number_wide {old = old} {new = new} at minus span e w = go (slice_get ts at) e
    where
      by : (t : Token) → same_kind t.kind k.BigInt ≡ false → (o : Option Lit) → Numeric x t o
          → IfThere (IsNumeric x ts minus false span old new) o
      by t isnt o (number a) = record {
        is = (refl, record { value = type_node 0 0 (Some (word_type word.Number)); writes = w; is = refl });
      }
      by t isnt o (big a b) = absurd (true≢false (sym b ∙ isnt))
      by t isnt o none = record { is = tt }

      go : (o : Option Token) → is_kind k.BigInt o ≡ false
          → IfThere (IsNumeric x ts minus false span old new) (given o (numeric_of x))
      go None e = record { is = tt }
      go (Some t) e = by t e (numeric_of x t) (numeric x t)

  -- ---- the number itself
  number_node : (sign : Value) (from to at : ℕ)
      → ts_type_in (node_of x ts l.NumberType from to (packed (sign ∷ token at ∷ [])))
      ≡ option_map vType.Lit (given (slice_get ts at) (numeric_lit x (is_there (as_group sign)) (span_of ts from to)))
  unfolding build type_of types.number_type
  number_node sign from to at = refl

  numeric_own : (minus : Bool) (span : Range) (t : Token) (o : Option Lit) → Numeric x t o
      → IfThere (λ it. option_map vType.Lit (numeric_lit x minus span t) ≡ numeric_type minus it span true) o
  unfolding numeric_lit number_of big_of
  numeric_own minus span t o (number a) =
      record { is = first (same_kind t.kind k.Number) (same_kind t.kind k.BigInt) a }
    where
      first : (b c : Bool) → b ≡ true → option_map vType.Lit (if b then Some (vTsLit.Number minus (number_of x t) span)
          else (if c then Some (vTsLit.BigInt minus (big_of x t) span) else None))
          ≡ Some (vType.Lit (vTsLit.Number minus (number_of x t) span))
      first true c e = refl
      first false c e = absurd (true≢false (sym e))
  numeric_own minus span t o (big a b) =
      record { is = second (same_kind t.kind k.Number) (same_kind t.kind k.BigInt) a b }
    where
      second : (b c : Bool) → b ≡ false → c ≡ true
          → option_map vType.Lit (if b then Some (vTsLit.Number minus (number_of x t) span)
          else (if c then Some (vTsLit.BigInt minus (big_of x t) span) else None))
          ≡ Some (vType.Lit (vTsLit.BigInt minus (big_of x t) span))
      second true c e f = absurd (true≢false e)
      second false true e f = refl
      second false false e f = absurd (true≢false (sym f))
  numeric_own minus span t o none = record { is = tt }

  pub own_numeric : (minus : Bool) (sign : Value) (at from to : ℕ) (old new : List ChangedEntry)
      → is_there (as_group sign) ≡ minus
      → Writes x ts old new (node_of x ts l.NumberType from to (packed (sign ∷ token at ∷ [])) ∷ [])
      → IfThere (IsNumeric x ts minus true (span_of ts from to) old new) (given (slice_get ts at) (numeric_of x))
  own_numeric minus sign at from to old new em w = go (slice_get ts at) refl
    where
      node : Value
      node = node_of x ts l.NumberType from to (packed (sign ∷ token at ∷ []))

      node_is : (t : Token) → slice_get ts at ≡ Some t
          → ts_type_in node ≡ option_map vType.Lit (numeric_lit x minus (span_of ts from to) t)
      node_is t is =
          number_node sign from to at
          ∙ (ap (λ b. option_map vType.Lit (given (slice_get ts at) (numeric_lit x b (span_of ts from to)))) em
          ∙ ap (λ o. option_map vType.Lit (given o (numeric_lit x minus (span_of ts from to)))) is)

      by : (t : Token) → slice_get ts at ≡ Some t → (o : Option Lit) → Numeric x t o
          → IfThere (λ it. option_map vType.Lit (numeric_lit x minus (span_of ts from to) t)
          ≡ numeric_type minus it (span_of ts from to) true) o
          → IfThere (IsNumeric x ts minus true (span_of ts from to) old new) o
      by t is o (number a) h = record { is = (refl, record { value = node; writes = w; is = node_is t is ∙ h.is }) }
      by t is o (big a b) h = record { is = (refl, record { value = node; writes = w; is = node_is t is ∙ h.is }) }
      by t is o none h = record { is = tt }

      go : (o : Option Token) → slice_get ts at ≡ o
          → IfThere (IsNumeric x ts minus true (span_of ts from to) old new) (given o (numeric_of x))
      go None is = record { is = tt }
      go (Some t) is =
          by t is (numeric_of x t) (numeric x t)
          (numeric_own minus (span_of ts from to) t (numeric_of x t) (numeric x t))

  pub own_written : {old past begun signed mid new : List ChangedEntry} {place at : ℕ} (to : ℕ)
      → Writes x ts old past []
      → begun ≡ past ++ opened → place ≡ length past → Writes x ts begun signed (nil ∷ [])
      → Writes x ts signed mid (token at ∷ [])
      → new ≡ closed (change.Old (what.Node l.NumberType)) at to place mid
      → IfThere (IsNumeric x ts false true (span_of ts at to) old new) (given (slice_get ts at) (numeric_of x))
  own_written {old = old} {past = past} {begun = begun} {signed = signed} {mid = mid} {new = new} {place = place}
      {at = at} to gone eo ep s w v =
      own_numeric false nil at at to old new refl
      (both_written x ts old past new [] _ gone
      (node_written x ts l.NumberType at to place past begun mid new (nil ∷ token at ∷ []) eo ep
      (both_written x ts begun signed mid (nil ∷ []) (token at ∷ []) s w) v))

  pub minus_written : {old past begun signed mid new : List ChangedEntry} {place at sign : ℕ} (from to : ℕ)
      → Writes x ts old past [] → begun ≡ past ++ opened → place ≡ length past
      → Writes x ts begun signed (packed (token sign ∷ []) ∷ []) → Writes x ts signed mid (token at ∷ [])
      → new ≡ closed (change.Old (what.Node l.NumberType)) from to place mid
      → IfThere (IsNumeric x ts true true (span_of ts from to) old new) (given (slice_get ts at) (numeric_of x))
  minus_written {old = old} {past = past} {begun = begun} {signed = signed} {mid = mid} {new = new} {place = place}
      {at = at} {sign = sign} from to gone eo ep s w v =
      own_numeric true (packed (token sign ∷ [])) at from to old new refl
      (both_written x ts old past new [] _ gone
      (node_written x ts l.NumberType from to place past begun mid new (packed (token sign ∷ []) ∷ token at ∷ []) eo ep
      (both_written x ts begun signed mid (packed (token sign ∷ []) ∷ []) (token at ∷ []) s w) v))

  -- a sign as a group
  pub sign_written : {old begun mid new : List ChangedEntry} {place sign : ℕ} → begun ≡ old ++ opened
      → place ≡ length old → Writes x ts begun mid (token sign ∷ [])
      → new ≡ closed (change.Old what.Parts) 0 0 place mid → Writes x ts old new (packed (token sign ∷ []) ∷ [])
  sign_written {old = old} {begun = begun} {mid = mid} {new = new} {place = place} {sign = sign} eo ep w v =
      group_written x ts 0 0 place old begun mid new (token sign ∷ []) eo ep w v

  -- ---- by whether it is its own type
  pub by_literal : {c minus : Bool} {span : Range} {old new : List ChangedEntry} {o : Option Lit} (b : Bool) → c ≡ b
      → IfThere (IsNumeric x ts minus b span old new) o → IfThere (IsNumeric x ts minus c span old new) o
  by_literal {c = c} {minus = minus} {span = span} {old = old} {new = new} {o = o} b e h =
      subst (λ (c : Bool). IfThere (IsNumeric x ts minus c span old new) o) (sym e) h

  -- a number that isn't behind `-` stands where its token does
  plain_type : (c : Bool) (t : Token) (o : Option Lit) → Numeric x t o
      → IfThere (λ it. numeric_type false it t.range c ≡ lit_type it c) o
  unfolding number_of big_of
  plain_type c t o (number a) = record { is = refl }
  plain_type c t o (big a b) = record { is = refl }
  plain_type c t o none = record { is = tt }

module _ (env : Env) (x : List ℕ) (ts : List Token) where
  plain_has : (c : Bool) (old new : List ChangedEntry) (t : Token) (o : Option Lit) → Numeric x t o
      → IfThere (IsNumeric x ts false c t.range old new) o
      → IfThere (λ it. numeric_type false it t.range c ≡ lit_type it c) o
      → IfThere (HasType env x ts c true old new) (option_map vExpr.Lit o)
  plain_has c old new t None n h e = record { is = tt }
  plain_has c old new t (Some it) n h e = record {
    is = lit_has env x ts c true old new it (subst (Gives x ts ts_type_in old new true) e.is h.is);
  }

  number_by : (c : Bool) (old new : List ChangedEntry) (at : ℕ)
      → ((t : Token) → slice_get ts at ≡ Some t → IfThere (IsNumeric x ts false c t.range old new) (numeric_of x t))
      → IfThere (HasType env x ts c true old new) (primary.number x (slice_get ts at))
  unfolding primary.number
  number_by c old new at h = go (slice_get ts at) refl
    where
      go : (o : Option Token) → slice_get ts at ≡ o
          → IfThere (HasType env x ts c true old new) (option_map vExpr.Lit (given o (numeric_of x)))
      go None is = record { is = tt }
      go (Some t) is =
          plain_has c old new t (numeric_of x t) (numeric x t) (h t is)
          (plain_type x ts c t (numeric_of x t) (numeric x t))

  pub number_own : {c : Bool} {old new : List ChangedEntry} (at : ℕ) → c ≡ true
      → IfThere (IsNumeric x ts false true (span_of ts at (at + 1)) old new) (given (slice_get ts at) (numeric_of x))
      → IfThere (HasType env x ts c true old new) (primary.number x (slice_get ts at))
  number_own {c = c} {old = old} {new = new} at e h =
      number_by c old new at (λ t is. by_literal x ts true e
      (subst (λ (r : Range). IfThere (IsNumeric x ts false true r old new) (numeric_of x t)) (token_span ts at t is)
      (subst (λ (o : Option Token). IfThere (IsNumeric x ts false true (span_of ts at (at + 1)) old new)
      (given o (numeric_of x)))
      is h)))

  pub number_any : {c : Bool} {old new : List ChangedEntry} (at : ℕ) → c ≡ false
      → ((span : Range) → IfThere (IsNumeric x ts false false span old new) (given (slice_get ts at) (numeric_of x)))
      → IfThere (HasType env x ts c true old new) (primary.number x (slice_get ts at))
  number_any {c = c} {old = old} {new = new} at e h =
      number_by c old new at (λ t is. by_literal x ts false e
      (subst (λ (o : Option Token). IfThere (IsNumeric x ts false false t.range old new) (given o (numeric_of x))) is
      (h t.range)))
