-- What properties of objects add, and what an object has.
use Rattle.std.specs.Prelude.{ℕ, ◌||◌, Bool, true, false, List, [], ◌∷◌, ◌++◌, length, take, Option, Some, None, option_map, map, if◌then◌else◌, IfSome, slice_get, ◌+◌}
use Rattle.std.proofs.Common.{◌≡◌, refl, sym, ap, subst, ◌∙◌}
use Rattle.std.proofs.lemmas.Bool.{true≢false}
use Rattle.base.specs.declared.range.Range.{Range}
use Rattle.es_token.specs.declared.token.Token.{Token}
use Rattle.es_grammar.specs.declared.rows.NodeKind.TheVariants as l
use Rattle.es_ast.specs.declared.ts.leaf.Ident.{Ident}
use Rattle.es_ast.specs.declared.ts.leaf.TsKey.{TsKey}
use Rattle.es_ast.specs.declared.ts.leaf.TsKey.TheVariants as vKey
use Rattle.es_ast.specs.declared.ts.leaf.MethodKind.{MethodKind}
use Rattle.es_ast.specs.declared.ts.leaf.MethodKind.TheVariants as vMethod
use Rattle.es_ast.specs.declared.ts.ts.TsType.{TsType}
use Rattle.es_ast.specs.declared.ts.ts.TsType.TheVariants as vType
use Rattle.es_ast.specs.declared.ts.ts.TsType.TheOpen.{TsTypeElement-F}
use Rattle.es_ast.specs.declared.ts.ts.TsTypeElement.{TsTypeElement, out-TsTypeElement, out-roll-TsTypeElement}
use Rattle.es_ast.specs.declared.ts.ts.TsTypeElement.TheVariants as vMember
use Rattle.es_ast.specs.declared.ast.Expr.{Expr, out-Expr}
use Rattle.es_ast.specs.declared.ast.Expr.TheVariants as vExpr
use Rattle.es_ast.specs.declared.ast.Function.{Function}
use Rattle.es_ast.specs.declared.ast.Param.{Param}
use Rattle.es_ast.specs.declared.ast.Stmt.{Stmt}
use Rattle.es_ast.specs.declared.ast.Prop.{Prop, roll-Prop, out-Prop, roll-out-Prop}
use Rattle.es_ast.specs.declared.ast.Prop.TheVariants as vProp
use Rattle.es_ast.specs.declared.ast.ClassMember.TheOpen.{Expr-F, Prop-F}
use Rattle.es_site.specs.Parts.{Whole}
use Rattle.es_lowering.specs.Value.{Value, Signature, token, given, part, turns, prop_at, type_key_at}
use Rattle.es_lowering.specs.Texts.{ident_of, span_of}
use Rattle.es_lowering.specs.Functions.{Key, function_of}
use Rattle.es_lowering.specs.TypedFunctions.{typed_function_of}
use Rattle.es_lowering.specs.Operators.{listed, accessor_kinds}
use Rattle.es_lowering.specs.Lowering.{packed, build, type_key_of}
use Rattle.es_lowering.specs.TypePatterns as type_pats
use Rattle.es_syntax.specs.Held.{node_of}
use Rattle.es_syntax.specs.Roles.{expr_in, key_in, type_key_in, type_member_in, ts_type_in}
use Rattle.es_changed.specs.declared.entry.Change.TheVariants as change
use Rattle.es_changed.specs.declared.entry.Form.{Form}
use Rattle.es_changed.specs.declared.entry.Form.TheVariants as form
use Rattle.es_changed.specs.declared.entry.ChangedEntry.{ChangedEntry}
use Rattle.es_changed.specs.Formed.{formed}
use Rattle.es_changed.specs.Shape.{closed, opened, Writes}
use Rattle.es_changed.proofs.Written.{nothing_written, both_written, form_written, taken_open}
use Rattle.es_expr_spans.specs.Spans.{expr_span}
use Rattle.es_view_expressions.specs.expr.Primary as primary
use Rattle.es_view_expressions.specs.member.Prop as view
use Rattle.dts_rules.specs.declared.found.FoundKind.{FoundKind}
use Rattle.dts_rules.specs.declared.found.FoundKind.TheVariants as kind
use Rattle.dts_rules.specs.Made.{nowhere, frozen, frozen_member_by, frozen_members}
use Rattle.dts_rules.specs.Rules as rules
use Rattle.dts_rules.specs.Rules.{Env, Shown, ShownProp, State, after, note, in_turn, some, or_any, in_prop}
use Rattle.dts_rules.specs.Programs.{shown_expr, shown_prop}
use Rattle.dts_rules.proofs.Shown.{at_prop, beside_prop, with_prop}
use Rattle.dts_draft.specs.declared.draft.Draft.{Draft}
use Rattle.dts_draft.specs.Drafts.{state_of}
use Rattle.dts_draft.specs.Written.{IfThere, Puts, PutsAll, Gives}
use Rattle.dts_draft.proofs.There.{lifted, given_any, one}
use Rattle.dts_draft.proofs.Lists.{puts_none, read_each}
use Rattle.dts_keys.specs.Keys.{IsTypeKey}
use Rattle.dts_patterns.proofs.Nodes.{word_key_is}
use Rattle.dts_kept.specs.Kept.{frozen_member}
use Rattle.dts_kept.proofs.TypeForms.{frozen_TypeLit}
use Rattle.dts_leaves.proofs.Shown.{shown_by}
use Rattle.dts_names.specs.Names.{IsNameType}
use Rattle.dts_types.specs.declared.ask.Ask.{Ask}
use Rattle.dts_types.specs.Types.{by_frozen, frozen_prop, prop_step, property_form, asked, Answers, Infers, InTurn, Turned, OrAny}
use Rattle.dts_operands.proofs.Forms.{span_is}
use Rattle.dts_types.proofs.TurnLemmas.{in_turn_map}

-- ---- properties of types
out_Property : (readonly : Bool) (key : TsKey) (mark : Bool) (ty : Option TsType) (span : Range)
    → out-TsTypeElement (vMember.PropertySignature readonly key mark ty span)
    ≡ TsTypeElement-F.PropertySignature readonly key mark ty span
out_Property readonly key mark ty span =
    ap out-TsTypeElement (sym (vMember.rolls-PropertySignature readonly key mark ty span))
    ∙ out-roll-TsTypeElement (TsTypeElement-F.PropertySignature readonly key mark ty span)

property_frozen : (readonly : Bool) (key : TsKey) (mark : Bool) (ty : Option TsType) (span : Range)
    → frozen_member (vMember.PropertySignature readonly key mark ty span)
    ≡ Some (vMember.PropertySignature true key mark ty span)
property_frozen readonly key mark ty span =
    ap (λ (w : TsTypeElement-F _ _ _ _ _). frozen_member_by w) (out_Property readonly key mark ty span)

-- a property, frozen or not
frozen_property : (froze readonly : Bool) (key : TsKey) (ty : TsType)
    → frozen_prop froze (Some (vMember.PropertySignature readonly key false (Some ty) nowhere))
    ≡ Some (vMember.PropertySignature (readonly || froze) key false (Some ty) nowhere)
frozen_property true true key ty = property_frozen true key false (Some ty) nowhere
frozen_property true false key ty = property_frozen false key false (Some ty) nowhere
frozen_property false true key ty = refl
frozen_property false false key ty = refl

frozen_nothing : (froze : Bool) → frozen_prop froze None ≡ None
frozen_nothing true = refl
frozen_nothing false = refl

module _ (env : Env) where
  -- ---- each form
  prop_by : (it : Prop) (w : Whole Prop-F) → roll-Prop w ≡ it → (c r : Bool) (s : State)
      → shown_prop env it c r s ≡ in_prop env (beside_prop env w) c r s
  prop_by it w rolls c r s = ap (λ (k : ShownProp). k c r s) (ap (shown_prop env) (sym rolls) ∙ at_prop env w)

  -- what it is, and what it is where the value is frozen
  data Kind (o : Option TsTypeElement) : Type 0 where
    nothing : o ≡ None → Kind o
    something : (m f : TsTypeElement) → o ≡ Some m → frozen_member m ≡ Some f → Kind o

  kind_property : (r : Bool) (k : TsKey) (ty : TsType)
      → Kind (Some (vMember.PropertySignature r k false (Some ty) nowhere))
  kind_property r k ty =
      something (vMember.PropertySignature r k false (Some ty) nowhere)
      (vMember.PropertySignature true k false (Some ty) nowhere) refl (property_frozen r k false (Some ty) nowhere)

  kind_key : (c r : Bool) (key : Option TsKey) (e : Shown) (span : Range) (s : State)
      → Kind (rules.key_value env c r key e span s).0
  kind_key c r (Some k) e span s =
      kind_property r k (or_any kind.UnableToInferTypeFallbackAny e.span (e.rule c r s)).0
  kind_key c r None e span s = nothing refl

  kind_short : (r : Bool) (id : Ident) (ty : Option TsType) (s : State) → Kind (rules.shorthand env r id ty s).0
  kind_short r id (Some ty) s = kind_property r (vKey.Ident (rules.marked false id)) ty
  kind_short r id None s = nothing refl

  kind_form : (w : Whole Prop-F) (c r : Bool) (s : State) → Kind (in_prop env (beside_prop env w) c r s).0
  kind_form (Prop-F.Prop::Spread expr span) c r s = nothing refl
  kind_form (Prop-F.Shorthand id) c r s = kind_short r id (rules.name_type env id c) s
  kind_form (Prop-F.Prop::KeyValue computed key value span) c r s =
      kind_key c r (rules.type_key env computed (out-Expr key) (shown_expr env key)) (shown_expr env value) span s
  kind_form (Prop-F.Prop::Method k computed key function span) c r s = nothing refl

  kind_of : (p : Prop) (c r : Bool) (s : State) → Kind (shown_prop env p c r s).0
  kind_of p c r s =
      subst (λ (t : Option TsTypeElement × State). Kind t.0)
      (sym (prop_by p (out-Prop p) (roll-out-Prop p) c r s)) (kind_form (out-Prop p) c r s)

  -- ---- all of an object
  step : Bool → Bool → Bool → Prop → State → Option TsTypeElement × State
  step froze c r p s = after (frozen_prop froze) (shown_prop env p c r s)

  both_frozen : (m f : TsTypeElement) (ms fs : List TsTypeElement) → frozen_member m ≡ Some f
      → frozen_members ms ≡ Some fs → frozen_members (m ∷ ms) ≡ Some (f ∷ fs)
  both_frozen m f ms fs e h = rw (e, h) refl

  one_frozen : (o : Option TsTypeElement) (os ps : List (Option TsTypeElement)) → Kind o
      → frozen_members (some os) ≡ Some (some ps)
      → frozen_members (some (o ∷ os)) ≡ Some (some (frozen_prop true o ∷ ps))
  one_frozen o os ps (nothing e) h =
      subst (λ (o : Option TsTypeElement). frozen_members (some (o ∷ os)) ≡ Some (some (frozen_prop true o ∷ ps)))
      (sym e) h
  one_frozen o os ps (something m f e g) h =
      subst (λ (o : Option TsTypeElement). frozen_members (some (o ∷ os)) ≡ Some (some (frozen_prop true o ∷ ps)))
      (sym e)
      (both_frozen m f (some os) (some ps) g h
      ∙ ap (λ (o : Option TsTypeElement). Some (some (o ∷ ps))) (sym g))

  all_frozen : (c r : Bool) (ps : List Prop) (s : State)
      → frozen_members (some (in_turn (λ p. shown_prop env p c r) ps s).0)
      ≡ Some (some (in_turn (step true c r) ps s).0)
  unfolding step shown_prop
  all_frozen c r [] s = refl
  all_frozen c r (p ∷ ps) s =
      one_frozen (shown_prop env p c r s).0
      (in_turn (λ p. shown_prop env p c r) ps (shown_prop env p c r s).1).0
      (in_turn (step true c r) ps (shown_prop env p c r s).1).0 (kind_of p c r s)
      (all_frozen c r ps (shown_prop env p c r s).1)

  all_state : (froze c r : Bool) (ps : List Prop) (s : State)
      → (in_turn (λ p. shown_prop env p c r) ps s).1 ≡ (in_turn (step froze c r) ps s).1
  unfolding step shown_prop
  all_state froze c r [] s = refl
  all_state froze c r (p ∷ ps) s = all_state froze c r ps (shown_prop env p c r s).1

  all_plain : (c r : Bool) (ps : List Prop) (s : State)
      → (in_turn (λ p. shown_prop env p c r) ps s).0 ≡ (in_turn (step false c r) ps s).0
  unfolding step shown_prop
  all_plain c r [] s = refl
  all_plain c r (p ∷ ps) s =
      ap (λ (os : List (Option TsTypeElement)). (shown_prop env p c r s).0 ∷ os)
      (all_plain c r ps (shown_prop env p c r s).1)

  -- the members that are written
  abbrev members : Bool → Bool → Bool → List Prop → State → List TsTypeElement
  members froze c r ps s = some (in_turn (step froze c r) ps s).0

  object_by : (froze c r : Bool) (ps : List Prop) (s : State)
      → by_frozen froze (
        Some (vType.TypeLit (some (in_turn (λ p. shown_prop env p c r) ps s).0) nowhere),
        (in_turn (λ p. shown_prop env p c r) ps s).1,
      )
      ≡ (Some (vType.TypeLit (members froze c r ps s) nowhere), (in_turn (step froze c r) ps s).1)
  object_by true c r ps s =
      ap (λ (o : Option TsType). (o, (in_turn (λ p. shown_prop env p c r) ps s).1))
      (frozen_TypeLit (some (in_turn (λ p. shown_prop env p c r) ps s).0) nowhere
      ∙ ap (option_map (λ ms. vType.TypeLit ms nowhere)) (all_frozen c r ps s))
      ∙ ap (λ (t : State). (Some (vType.TypeLit (members true c r ps s) nowhere), t)) (all_state true c r ps s)
  object_by false c r ps s =
      ap (λ (os : List (Option TsTypeElement)). (
        Some (vType.TypeLit (some os) nowhere),
        (in_turn (λ p. shown_prop env p c r) ps s).1,
      )) (all_plain c r ps s)
      ∙ ap (λ (t : State). (Some (vType.TypeLit (members false c r ps s) nowhere), t)) (all_state false c r ps s)

  object_shown : (ask : Ask) (ps : List Prop) (span : Range) (s : State)
      → asked env ask (vExpr.Object ps span) s
      ≡ (Some (vType.TypeLit (some (in_turn (prop_step env ask) ps s).0) nowhere), (in_turn (prop_step env ask) ps s).1)
  unfolding step shown_prop
  object_shown ask ps span s =
      ap (λ (k : Shown). by_frozen ask.frozen (k.rule ask.literal ask.readonly s))
      (shown_by env _ (Expr-F.Expr::Object ps span) (vExpr.rolls-Object ps span))
      ∙ (ap (λ (t : List (Option TsTypeElement) × State). by_frozen ask.frozen
      (Some (vType.TypeLit (some t.0) nowhere), t.1))
      (in_turn_map (with_prop env) (λ (p : Prop × ShownProp). p.1 ask.literal ask.readonly) ps s)
      ∙ object_by ask.frozen ask.literal ask.readonly ps s)

  module _ (x : List ℕ) (ts : List Token) where
    pub object_made : (ask : Ask) (old begun mid new : Draft) (place : ℕ) (r : Range) (v : Value)
        → begun.row ≡ old.row ++ opened → place ≡ length old.row → state_of begun ≡ state_of old
        → IfThere (InTurn x ts type_member_in (prop_step env ask) begun mid) (turns (λ turn. prop_at turn 0) v)
        → new.row ≡ closed (change.Form form.Members) 0 0 place mid.row → state_of new ≡ state_of mid
        → IfThere (Infers x ts env ask old new true) (primary.object r v)
    unfolding primary.object
    object_made ask old begun mid new place r v eo ep sb h w sn = go (turns (λ turn. prop_at turn 0) v) h
      where
        go : (o : Option (List Prop)) → IfThere (InTurn x ts type_member_in (prop_step env ask) begun mid) o
            → IfThere (Infers x ts env ask old new true) (option_map (λ props. vExpr.Object props r) o)
        go None h = record { is = tt }
        go (Some ps) h =
            let t : InTurn x ts type_member_in (prop_step env ask) begun mid ps = h.is in
            record {
              is = subst (Answers x ts old new true) (sym (object_shown ask ps r (state_of old))) (
                refl,
                sn ∙ (t.state ∙ ap (λ (s : State). (in_turn (prop_step env ask) ps s).1) sb),
                subst (λ (s : State). Puts x ts ts_type_in old.row new.row
                    (vType.TypeLit (some (in_turn (prop_step env ask) ps s).0) nowhere)) sb (record {
                      value = formed x ts form.Members 0 0 (packed t.puts.values);
                      writes = form_written x ts form.Members 0 0 place old.row begun.row mid.row new.row t.puts.values
                          eo ep t.puts.writes w;
                      is = ap (option_map (λ members. vType.TypeLit members nowhere))
                          (read_each type_member_in t.puts.values
                          (some (in_turn (prop_step env ask) ps (state_of begun)).0) t.puts.are);
                    }),
              );
            }

    -- ---- a property that is no member
    dropped : (ask : Ask) (old new : Draft) (p : Prop) (k : FoundKind) (range : Range)
        → shown_prop env p ask.literal ask.readonly (state_of old) ≡ (None, note k range (state_of old))
        → new.row ≡ old.row
        → state_of new ≡ note k range (state_of old) → Turned x ts type_member_in (prop_step env ask) old new p
    dropped ask old new p k range h er es =
        let e : prop_step env ask p (state_of old) ≡ (None, note k range (state_of old)) =
        ap (after (frozen_prop ask.frozen)) h
        ∙ ap (λ (o : Option TsTypeElement). (o, note k range (state_of old))) (frozen_nothing ask.frozen) in
        record {
          state = es ∙ ap (λ (t : Option TsTypeElement × State). t.1) (sym e);
          puts = subst (λ (o : Option TsTypeElement). PutsAll x ts type_member_in old.row new.row (some (o ∷ [])))
              (ap (λ (t : Option TsTypeElement × State). t.0) (sym e))
              (subst (λ (row : List ChangedEntry). PutsAll x ts type_member_in old.row row []) (sym er)
              (puts_none x ts type_member_in old.row));
        }

    method_dropped : (ask : Ask) (old new : Draft) (k : MethodKind) (computed : Bool) (key : Expr) (f : Function)
        (range : Range) → new.row ≡ old.row → state_of new ≡ note kind.UnableToInferTypeFromProp range (state_of old)
        → Turned x ts type_member_in (prop_step env ask) old new (vProp.Method k computed key f range)
    method_dropped ask old new k computed key f range er es =
        dropped ask old new _ kind.UnableToInferTypeFromProp range
        (prop_by _ (Prop-F.Prop::Method k computed key f range) (vProp.rolls-Method k computed key f range) ask.literal
        ask.readonly (state_of old)) er es

    pub spread_noted : (ask : Ask) (old new : Draft) (range at : Range) (o : Option Expr) → at ≡ range
        → new.row ≡ old.row
        → state_of new ≡ note kind.UnableToInferTypeFromSpread at (state_of old)
        → IfThere (Turned x ts type_member_in (prop_step env ask) old new) (view.spread range o)
    unfolding view.spread
    spread_noted ask old new range at None ea er es = record { is = tt }
    spread_noted ask old new range at (Some e) ea er es = record {
      is = dropped ask old new _ kind.UnableToInferTypeFromSpread range
          (prop_by _ (Prop-F.Prop::Spread e range) (vProp.rolls-Spread e range) ask.literal ask.readonly (state_of old))
          er (es ∙ ap (λ (q : Range). note kind.UnableToInferTypeFromSpread q (state_of old)) ea);
    }

    method_at : (ask : Ask) (old new : Draft) (range : Range) (k : MethodKind) (is_async is_generator : Bool)
        (span : Range) (key : Option Key) (params : Option (List Param)) (body : Option Stmt) → new.row ≡ old.row
        → state_of new ≡ note kind.UnableToInferTypeFromProp range (state_of old)
        → IfThere (Turned x ts type_member_in (prop_step env ask) old new)
        (view.method range k is_async is_generator span key params body)
    unfolding view.method
    method_at ask old new range k is_async is_generator span None params body er es = record { is = tt }
    method_at ask old new range k is_async is_generator span (Some key) None body er es = record { is = tt }
    method_at ask old new range k is_async is_generator span (Some key) (Some params) None er es = record { is = tt }
    method_at ask old new range k is_async is_generator span (Some key) (Some params) (Some body) er es = record {
      is = method_dropped ask old new k key.0 key.1 _ range er es;
    }

    accessor_at : (ask : Ask) (old new : Draft) (range : Range) (sign : Option Token) (span : Range)
        (key : Option Key) (params : Option (List Param)) (body : Option Stmt) → new.row ≡ old.row
        → state_of new ≡ note kind.UnableToInferTypeFromProp range (state_of old)
        → IfThere (Turned x ts type_member_in (prop_step env ask) old new)
        (view.accessor range sign span key params body)
    unfolding view.accessor
    accessor_at ask old new range sign span key params body er es =
        given_any (Turned x ts type_member_in (prop_step env ask) old new)
        (given (option_map (λ t. t.kind) sign) (listed accessor_kinds)) _
        (λ k. method_at ask old new range k false false span key params body er es)

    typed_method_at : (ask : Ask) (old new : Draft) (range : Range) (k : MethodKind)
        (is_async is_generator : Bool) (span : Range) (key : Option Key) (signature : Option Signature)
        (body : Option Stmt)
        → new.row ≡ old.row → state_of new ≡ note kind.UnableToInferTypeFromProp range (state_of old)
        → IfThere (Turned x ts type_member_in (prop_step env ask) old new)
        (view.typed_method range k is_async is_generator span key signature body)
    unfolding view.typed_method
    typed_method_at ask old new range k is_async is_generator span None signature body er es = record { is = tt }
    typed_method_at ask old new range k is_async is_generator span (Some key) None body er es = record { is = tt }
    typed_method_at ask old new range k is_async is_generator span (Some key) (Some it) None er es =
        record { is = tt }
    typed_method_at ask old new range k is_async is_generator span (Some key) (Some it) (Some body) er es = record {
      is = method_dropped ask old new k key.0 key.1 _ range er es;
    }

    typed_accessor_at : (ask : Ask) (old new : Draft) (range : Range) (sign : Option Token) (span : Range)
        (key : Option Key) (signature : Option Signature) (body : Option Stmt) → new.row ≡ old.row
        → state_of new ≡ note kind.UnableToInferTypeFromProp range (state_of old)
        → IfThere (Turned x ts type_member_in (prop_step env ask) old new)
        (view.typed_accessor range sign span key signature body)
    unfolding view.typed_accessor
    typed_accessor_at ask old new range sign span key signature body er es =
        given_any (Turned x ts type_member_in (prop_step env ask) old new)
        (given (option_map (λ t. t.kind) sign) (listed accessor_kinds)) _
        (λ k. typed_method_at ask old new range k false false span key signature body er es)

    -- the same at the range of the node
    moved : (old new : Draft) (range at : Range) → at ≡ range
        → state_of new ≡ note kind.UnableToInferTypeFromProp at (state_of old)
        → state_of new ≡ note kind.UnableToInferTypeFromProp range (state_of old)
    moved old new range at ea es = es ∙ ap (λ (q : Range). note kind.UnableToInferTypeFromProp q (state_of old)) ea

    pub method_noted : (ask : Ask) (old new : Draft) (range at : Range) (k : MethodKind) (is_async is_generator : Bool)
        (span : Range) (key : Option Key) (params : Option (List Param)) (body : Option Stmt) → at ≡ range
        → new.row ≡ old.row → state_of new ≡ note kind.UnableToInferTypeFromProp at (state_of old)
        → IfThere (Turned x ts type_member_in (prop_step env ask) old new)
        (view.method range k is_async is_generator span key params body)
    method_noted ask old new range at k is_async is_generator span key params body ea er es =
        method_at ask old new range k is_async is_generator span key params body er (moved old new range at ea es)

    pub accessor_noted : (ask : Ask) (old new : Draft) (range at : Range) (sign : Option Token) (span : Range)
        (key : Option Key) (params : Option (List Param)) (body : Option Stmt) → at ≡ range → new.row ≡ old.row
        → state_of new ≡ note kind.UnableToInferTypeFromProp at (state_of old)
        → IfThere (Turned x ts type_member_in (prop_step env ask) old new)
        (view.accessor range sign span key params body)
    accessor_noted ask old new range at sign span key params body ea er es =
        accessor_at ask old new range sign span key params body er (moved old new range at ea es)

    pub typed_method_noted : (ask : Ask) (old new : Draft) (range at : Range) (k : MethodKind)
        (is_async is_generator : Bool) (span : Range) (key : Option Key) (signature : Option Signature)
        (body : Option Stmt) → at ≡ range → new.row ≡ old.row
        → state_of new ≡ note kind.UnableToInferTypeFromProp at (state_of old)
        → IfThere (Turned x ts type_member_in (prop_step env ask) old new)
        (view.typed_method range k is_async is_generator span key signature body)
    typed_method_noted ask old new range at k is_async is_generator span key signature body ea er es =
        typed_method_at ask old new range k is_async is_generator span key signature body er
        (moved old new range at ea es)

    pub typed_accessor_noted : (ask : Ask) (old new : Draft) (range at : Range) (sign : Option Token) (span : Range)
        (key : Option Key) (signature : Option Signature) (body : Option Stmt) → at ≡ range → new.row ≡ old.row
        → state_of new ≡ note kind.UnableToInferTypeFromProp at (state_of old)
        → IfThere (Turned x ts type_member_in (prop_step env ask) old new)
        (view.typed_accessor range sign span key signature body)
    typed_accessor_noted ask old new range at sign span key signature body ea er es =
        typed_accessor_at ask old new range sign span key signature body er (moved old new range at ea es)

    -- ---- a member
    member : (readonly : Bool) (k : TsKey) (ty : TsType) (v w : Value) → type_key_in v ≡ Some k → ts_type_in w ≡ Some ty
        → given (type_key_in v) (λ key. given (ts_type_in w)
        (λ ty. Some (vMember.PropertySignature readonly key false (Some ty) nowhere)))
        ≡ Some (vMember.PropertySignature readonly k false (Some ty) nowhere)
    member readonly k ty v w ek et =
        ap (λ (o : Option TsKey). given o (λ key. given (ts_type_in w)
        (λ ty. Some (vMember.PropertySignature readonly key false (Some ty) nowhere)))) ek
        ∙ ap (λ (o : Option TsType). given o
        (λ ty. Some (vMember.PropertySignature readonly k false (Some ty) nowhere))) et

    written : (fixed : Bool) (old begun mid new : List ChangedEntry) (place : ℕ) (k : TsKey) (ty : TsType) (v w : Value)
        → begun ≡ old ++ opened → place ≡ length old → Writes x ts begun mid (v ∷ w ∷ []) → type_key_in v ≡ Some k
        → ts_type_in w ≡ Some ty → new ≡ closed (change.Form (property_form fixed)) 0 0 place mid
        → PutsAll x ts type_member_in old new (vMember.PropertySignature fixed k false (Some ty) nowhere ∷ [])
    written true old begun mid new place k ty v w eo ep ws ek et c = record {
      values = formed x ts form.ReadonlyProperty 0 0 (packed (v ∷ w ∷ [])) ∷ [];
      writes = form_written x ts form.ReadonlyProperty 0 0 place old begun mid new (v ∷ w ∷ []) eo ep ws c;
      are = ap (λ (o : Option TsTypeElement). o ∷ []) (member true k ty v w ek et);
    }
    written false old begun mid new place k ty v w eo ep ws ek et c = record {
      values = formed x ts form.Property 0 0 (packed (v ∷ w ∷ [])) ∷ [];
      writes = form_written x ts form.Property 0 0 place old begun mid new (v ∷ w ∷ []) eo ep ws c;
      are = ap (λ (o : Option TsTypeElement). o ∷ []) (member false k ty v w ek et);
    }

    abbrev fixed : Ask → Bool
    fixed ask = ask.readonly || ask.frozen

    key_shown : (ask : Ask) (computed : Bool) (key value : Expr) (span : Range) (s : State)
        → prop_step env ask (vProp.KeyValue computed key value span) s
        ≡ after (frozen_prop ask.frozen) (rules.key_value env ask.literal ask.readonly
        (rules.type_key env computed (out-Expr key) (shown_expr env key)) (shown_expr env value) span s)
    key_shown ask computed key value span s =
        ap (after (frozen_prop ask.frozen))
        (prop_by _ (Prop-F.Prop::KeyValue computed key value span) (vProp.rolls-KeyValue computed key value span)
        ask.literal ask.readonly s)

    -- with a key and a type
    pub key_written : (ask : Ask) (f : Form) (old begun keyed mid new : Draft) (place : ℕ) (wrote : Bool)
        (span range : Range)
        (key : Option Key) (value : Option Expr) → begun.row ≡ old.row ++ opened → place ≡ length old.row
        → state_of begun ≡ state_of old → wrote ≡ true → IfThere (IsTypeKey env x ts begun.row keyed.row wrote) key
        → state_of keyed ≡ state_of begun → IfSome value (λ e. range ≡ expr_span e)
        → IfThere (OrAny x ts env kind.UnableToInferTypeFallbackAny range
        (record { literal = ask.literal; readonly = ask.readonly; frozen = false }) keyed mid) value
        → f ≡ property_form (fixed ask) → new.row ≡ closed (change.Form f) 0 0 place mid.row
        → state_of new ≡ state_of mid
        → IfThere (Turned x ts type_member_in (prop_step env ask) old new) (view.key_value span key value)
    unfolding view.key_value
    key_written ask f old begun keyed mid new place wrote span range None value eo ep sb w hk sk er hv ef c sn =
        record { is = tt }
    key_written ask f old begun keyed mid new place wrote span range (Some key) None eo ep sb w hk sk er hv ef c sn =
        record { is = tt }
    key_written ask f old begun keyed mid new place wrote span range (Some key) (Some e) eo ep sb w hk sk er hv ef c
        sn =
        record {
          is = go (rules.type_key env key.0 (out-Expr key.1) (shown_expr env key.1)) refl hk.is;
        }
      where
        inner : Ask
        inner = record { literal = ask.literal; readonly = ask.readonly; frozen = false }

        same : or_any kind.UnableToInferTypeFallbackAny range
            ((shown_expr env e).rule ask.literal ask.readonly (state_of keyed))
            ≡ or_any kind.UnableToInferTypeFallbackAny (shown_expr env e).span
            ((shown_expr env e).rule ask.literal ask.readonly (state_of old))
        same =
            ap (λ (q : Range). or_any kind.UnableToInferTypeFallbackAny q
            ((shown_expr env e).rule ask.literal ask.readonly (state_of keyed))) (er ∙ sym (span_is env e))
            ∙ ap (λ (s : State). or_any kind.UnableToInferTypeFallbackAny (shown_expr env e).span
            ((shown_expr env e).rule ask.literal ask.readonly s)) (sk ∙ sb)

        go : (k : Option TsKey) → rules.type_key env key.0 (out-Expr key.1) (shown_expr env key.1) ≡ k
            → Gives x ts type_key_in begun.row keyed.row wrote k
            → Turned x ts type_member_in (prop_step env ask) old new (vProp.KeyValue key.0 key.1 e span)
        go None is g = absurd (true≢false (sym w ∙ g.0))
        go (Some k) is g =
            let p : TsType × State = or_any kind.UnableToInferTypeFallbackAny (shown_expr env e).span
            ((shown_expr env e).rule ask.literal ask.readonly (state_of old)) in
            let t : prop_step env ask (vProp.KeyValue key.0 key.1 e span) (state_of old)
            ≡ (Some (vMember.PropertySignature (fixed ask) k false (Some p.0) nowhere), p.1) =
            key_shown ask key.0 key.1 e span (state_of old)
            ∙ (ap (λ (k : Option TsKey). after (frozen_prop ask.frozen)
            (rules.key_value env ask.literal ask.readonly k (shown_expr env e) span (state_of old))) is
            ∙ ap (λ (o : Option TsTypeElement). (o, p.1)) (frozen_property ask.frozen ask.readonly k p.0)) in
            record {
              state = sn ∙ (hv.is.state ∙ (ap (λ (p : TsType × State). p.1) same
                  ∙ ap (λ (p : Option TsTypeElement × State). p.1) (sym t)));
              puts = subst (λ (o : Option TsTypeElement). PutsAll x ts type_member_in old.row new.row (some (o ∷ [])))
                  (ap (λ (p : Option TsTypeElement × State). p.0) (sym t))
                  (written (fixed ask) old.row begun.row mid.row new.row place k p.0 g.1.value hv.is.puts.value eo ep
                  (both_written x ts begun.row keyed.row mid.row (g.1.value ∷ []) (hv.is.puts.value ∷ []) g.1.writes
                  hv.is.puts.writes) g.1.is (hv.is.puts.is ∙ ap (λ (p : TsType × State). Some p.0) same)
                  (c ∙ ap (λ (f : Form). closed (change.Form f) 0 0 place mid.row) ef));
            }

    -- without a key
    pub key_none : (ask : Ask) (old begun keyed back new : Draft) (place : ℕ) (wrote : Bool) (span at : Range)
        (key : Option Key) (value : Option Expr) → begun.row ≡ old.row ++ opened → place ≡ length old.row
        → state_of begun ≡ state_of old → wrote ≡ false → IfThere (IsTypeKey env x ts begun.row keyed.row wrote) key
        → state_of keyed ≡ state_of begun → back.row ≡ take place keyed.row → state_of back ≡ state_of keyed
        → new.row ≡ back.row → at ≡ span → state_of new ≡ note kind.UnableToInferTypeFromProp at (state_of back)
        → IfThere (Turned x ts type_member_in (prop_step env ask) old new) (view.key_value span key value)
    unfolding view.key_value
    key_none ask old begun keyed back new place wrote span at None value eo ep sb w hk sk tb st er ea es =
        record { is = tt }
    key_none ask old begun keyed back new place wrote span at (Some key) None eo ep sb w hk sk tb st er ea es =
        record { is = tt }
    key_none ask old begun keyed back new place wrote span at (Some key) (Some e) eo ep sb w hk sk tb st er ea es =
        record {
          is = go (rules.type_key env key.0 (out-Expr key.1) (shown_expr env key.1)) refl hk.is;
        }
      where
        go : (k : Option TsKey) → rules.type_key env key.0 (out-Expr key.1) (shown_expr env key.1) ≡ k
            → Gives x ts type_key_in begun.row keyed.row wrote k
            → Turned x ts type_member_in (prop_step env ask) old new (vProp.KeyValue key.0 key.1 e span)
        go (Some k) is g = absurd (true≢false (sym g.0 ∙ w))
        go None is g =
            dropped ask old new _ kind.UnableToInferTypeFromProp span
            (prop_by _ (Prop-F.Prop::KeyValue key.0 key.1 e span) (vProp.rolls-KeyValue key.0 key.1 e span) ask.literal
            ask.readonly (state_of old)
            ∙ ap (λ (k : Option TsKey). rules.key_value env ask.literal ask.readonly k (shown_expr env e) span
            (state_of old)) is)
            (er ∙ (tb ∙ taken_open x ts place old.row begun.row keyed.row [] eo ep g.1))
            (es ∙ (ap (λ (q : Range). note kind.UnableToInferTypeFromProp q (state_of back)) ea
            ∙ ap (note kind.UnableToInferTypeFromProp span) (st ∙ (sk ∙ sb))))

    -- ---- `a`
    short_shown : (ask : Ask) (id : Ident) (s : State)
        → prop_step env ask (vProp.Shorthand id) s
        ≡ after (frozen_prop ask.frozen) (rules.shorthand env ask.readonly id (rules.name_type env id ask.literal) s)
    short_shown ask id s =
        ap (after (frozen_prop ask.frozen))
        (prop_by _ (Prop-F.Shorthand id) (vProp.rolls-Shorthand id) ask.literal ask.readonly s)

    -- the name of the key is the token's
    own_name : (t : Token) → rules.marked false (ident_of x t) ≡ ident_of x t
    unfolding ident_of
    own_name t = refl

    own_span : (t : Token) → (ident_of x t).span ≡ t.range
    unfolding ident_of
    own_span t = refl

    pub short_written : (ask : Ask) (f : Form) (old begun past keyed mid new : Draft) (place at : ℕ) (wrote : Bool)
        → begun.row ≡ old.row ++ opened → place ≡ length old.row → Writes x ts begun.row past.row []
        → Writes x ts past.row keyed.row (node_of x ts l.WordKeyOfType at (at + 1) (packed (token at ∷ [])) ∷ [])
        → wrote ≡ true → IfThere (IsNameType env x ts ask.literal keyed.row mid.row wrote) (slice_get ts at)
        → f ≡ property_form (fixed ask) → new.row ≡ closed (change.Form f) 0 0 place mid.row
        → state_of new ≡ state_of old
        → IfThere (Turned x ts type_member_in (prop_step env ask) old new) (view.shorthand x (slice_get ts at))
    unfolding view.shorthand
    short_written ask f old begun past keyed mid new place at wrote eo ep gone wk w h ef c sn =
        go (slice_get ts at) refl h
      where
        fin : (t : Token) → slice_get ts at ≡ Some t → (ty : Option TsType)
            → rules.name_type env (ident_of x t) ask.literal ≡ ty → Gives x ts ts_type_in keyed.row mid.row wrote ty
            → Turned x ts type_member_in (prop_step env ask) old new (vProp.Shorthand (ident_of x t))
        fin t there None is g = absurd (true≢false (sym w ∙ g.0))
        fin t there (Some ty) is g =
            let e : prop_step env ask (vProp.Shorthand (ident_of x t)) (state_of old)
            ≡ (
              Some (vMember.PropertySignature (fixed ask) (vKey.Ident (ident_of x t)) false (Some ty) nowhere),
              state_of old,
            ) =
            short_shown ask (ident_of x t) (state_of old)
            ∙ (ap (λ (ty : Option TsType). after (frozen_prop ask.frozen)
            (rules.shorthand env ask.readonly (ident_of x t) ty (state_of old))) is
            ∙ (ap (λ (o : Option TsTypeElement). (o, state_of old))
            (frozen_property ask.frozen ask.readonly (vKey.Ident (rules.marked false (ident_of x t))) ty)
            ∙ ap (λ (id : Ident).
            (Some (vMember.PropertySignature (fixed ask) (vKey.Ident id) false (Some ty) nowhere), state_of old))
            (own_name t))) in
            record {
              state = sn ∙ ap (λ (p : Option TsTypeElement × State). p.1) (sym e);
              puts = subst (λ (o : Option TsTypeElement). PutsAll x ts type_member_in old.row new.row (some (o ∷ [])))
                  (ap (λ (p : Option TsTypeElement × State). p.0) (sym e))
                  (written (fixed ask) old.row begun.row mid.row new.row place (vKey.Ident (ident_of x t)) ty _
                  g.1.value
                  eo ep
                  (both_written x ts begun.row past.row mid.row [] _ gone
                  (both_written x ts past.row keyed.row mid.row _ (g.1.value ∷ []) wk g.1.writes))
                  (word_key_is x ts at (at + 1) at
                  ∙ ap (λ (o : Option Token). option_map vKey.Ident (option_map (ident_of x) o)) there) g.1.is
                  (c ∙ ap (λ (f : Form). closed (change.Form f) 0 0 place mid.row) ef));
            }

        go : (o : Option Token) → slice_get ts at ≡ o
            → IfThere (IsNameType env x ts ask.literal keyed.row mid.row wrote) o
            → IfThere (Turned x ts type_member_in (prop_step env ask) old new)
            (option_map (λ t. vProp.Shorthand (ident_of x t)) o)
        go None is h = record { is = tt }
        go (Some t) is h = record { is = fin t is (rules.name_type env (ident_of x t) ask.literal) refl h.is }

    pub short_none : (ask : Ask) (old begun past keyed mid back new : Draft) (place at : ℕ) (wrote : Bool)
        (range : Range)
        → begun.row ≡ old.row ++ opened → place ≡ length old.row → Writes x ts begun.row past.row []
        → Writes x ts past.row keyed.row (node_of x ts l.WordKeyOfType at (at + 1) (packed (token at ∷ [])) ∷ [])
        → wrote ≡ false → IfThere (IsNameType env x ts ask.literal keyed.row mid.row wrote) (slice_get ts at)
        → back.row ≡ take place mid.row → new.row ≡ back.row → IfSome (slice_get ts at) (λ t. range ≡ t.range)
        → state_of new ≡ note kind.UnableToInferTypeFromProp range (state_of old)
        → IfThere (Turned x ts type_member_in (prop_step env ask) old new) (view.shorthand x (slice_get ts at))
    unfolding view.shorthand
    short_none ask old begun past keyed mid back new place at wrote range eo ep gone wk w h tb er rr sn =
        go (slice_get ts at) h rr
      where
        fin : (t : Token) (ty : Option TsType) → rules.name_type env (ident_of x t) ask.literal ≡ ty
            → Gives x ts ts_type_in keyed.row mid.row wrote ty → range ≡ t.range
            → Turned x ts type_member_in (prop_step env ask) old new (vProp.Shorthand (ident_of x t))
        fin t (Some ty) is g e = absurd (true≢false (sym g.0 ∙ w))
        fin t None is g e =
            dropped ask old new _ kind.UnableToInferTypeFromProp range
            (prop_by _ (Prop-F.Shorthand (ident_of x t)) (vProp.rolls-Shorthand (ident_of x t)) ask.literal ask.readonly
            (state_of old)
            ∙ (ap (λ (ty : Option TsType). rules.shorthand env ask.readonly (ident_of x t) ty (state_of old)) is
            ∙ ap (λ (q : Range). (None, note kind.UnableToInferTypeFromProp q (state_of old))) (own_span t ∙ sym e)))
            (er ∙ (tb ∙ taken_open x ts place old.row begun.row mid.row _ eo ep
            (both_written x ts begun.row past.row mid.row [] _ gone
            (both_written x ts past.row keyed.row mid.row _ [] wk g.1)))) sn

        go : (o : Option Token) → IfThere (IsNameType env x ts ask.literal keyed.row mid.row wrote) o
            → IfSome o (λ t. range ≡ t.range)
            → IfThere (Turned x ts type_member_in (prop_step env ask) old new)
            (option_map (λ t. vProp.Shorthand (ident_of x t)) o)
        go None h e = record { is = tt }
        go (Some t) h e = record { is = fin t (rules.name_type env (ident_of x t) ask.literal) refl h.is e }
