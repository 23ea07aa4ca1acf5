-- What methods are by the rules.
use Rattle.std.specs.Prelude.{ℕ, Bool, true, false, List, [], ◌∷◌, Option, Some, None, map}
use Rattle.std.proofs.Common.{◌≡◌, refl, sym, ap, subst, ◌∙◌}
use Rattle.base.specs.declared.range.Range.{Range}
use Rattle.es_token.specs.declared.token.Token.{Token}
use Rattle.es_ast.specs.declared.ts.leaf.MethodKind.{MethodKind}
use Rattle.es_ast.specs.declared.leaf.Modifiers.{Modifiers}
use Rattle.es_ast.specs.declared.ast.ClassMember.{ClassMember}
use Rattle.es_ast.specs.declared.ast.ClassMember.TheVariants as vMember
use Rattle.es_ast.specs.declared.ast.ClassMember.TheOpen.{ClassMember-F}
use Rattle.es_ast.specs.declared.ast.Function.{Function}
use Rattle.es_ast.specs.declared.ast.Param.{Param}
use Rattle.es_ast.specs.declared.ast.Stmt.{Stmt}
use Rattle.es_lowering.specs.Value.{Signature}
use Rattle.es_lowering.specs.Functions.{Key}
use Rattle.es_lowering.specs.TypedFunctions.{typed_function_of}
use Rattle.es_syntax.specs.Roles.{member_in}
use Rattle.es_changed.proofs.Written.{nothing_written}
use Rattle.dts_rules.specs.Rules as rules
use Rattle.dts_rules.specs.Rules.{Run, State, ShownFunction, ShownParam, after, in_turn, is_setter}
use Rattle.dts_rules.specs.Programs as programs
use Rattle.dts_rules.specs.Programs.{shown_function, shown_member}
use Rattle.dts_rules.proofs.Shown.{at_function, at_member, with_param}
use Rattle.dts_draft.specs.declared.draft.Draft.{Draft}
use Rattle.dts_draft.specs.Drafts.{state_of}
use Rattle.dts_draft.specs.Written.{Gives}
use Rattle.dts_parts.specs.Params.{param_rule}
use Rattle.dts_fields.specs.Fields.{MemberMade}
use Rattle.dts_member_keys.specs.Keys.{key_rule}
use Rattle.dts_members.specs.Methods.{head_rule, MethodPut}

module _ (by : rules.Env) where
  -- ---- functions
  turned : (ps : List Param) (s : State)
      → in_turn (λ (p : Param × ShownParam). p.1.declared) (map (with_param by) ps) s ≡ in_turn (param_rule by) ps s
  turned [] s = refl
  turned (p ∷ ps) s =
      ap (λ (q : List Param × State). ((param_rule by p s).0 ∷ q.0, q.1)) (turned ps (param_rule by p s).1)

  pub bare_is : (is_async is_generator : Bool) (span : Range) (sig : Signature) (body : Option Stmt) (setter : Bool)
      (s : State)
      → (shown_function by (typed_function_of is_async is_generator span None sig body)).bare true setter s
      ≡ after (λ sig. typed_function_of is_async is_generator span None sig None) (head_rule by setter sig s)
  bare_is is_async is_generator span sig body setter s =
      ap (λ (k : ShownFunction). k.bare true setter s) (at_function by (record {
        ident = None;
        is_async = is_async;
        is_generator = is_generator;
        type_params = sig.0;
        params = sig.1;
        return_type = sig.2;
        body = body;
        span = span;
      }))
      ∙ ap (after (λ ps. typed_function_of is_async is_generator span None
      (sig.0, ps, rules.unless by setter sig.2) None)) (turned sig.1 s)

  pub unless_none : {A : Type 0} (b : Bool) → rules.unless by {A = A} b None ≡ None
  unless_none true = refl
  unless_none false = refl

  -- ---- methods
  module _ (modifiers : Modifiers) (kind : MethodKind) (mark : Bool) (r : Range) (f : Function) where
    abbrev a_method : Key → ClassMember
    a_method key = vMember.Method modifiers kind key.0 key.1 mark f r

    abbrev ruled : Option Key → Run (Option ClassMember)
    ruled key = programs.method by modifiers kind mark r (f, shown_function by f) key

    shown_method : (key : Key) (s : State)
        → shown_member by (a_method key) s ≡ programs.unless_ by (by.implements r) (ruled (key_rule by key)) s
    shown_method key s =
        ap (λ (run : Run (Option ClassMember)). run s)
        (ap (shown_member by) (sym (vMember.rolls-Method modifiers kind key.0 key.1 mark f r))
        ∙ at_member by (ClassMember-F.ClassMember::Method modifiers kind key.0 key.1 mark f r))

    -- the body of overloads
    pub method_listed : (key : Key) (s : State) → by.implements r ≡ true
        → shown_member by (a_method key) s ≡ (None, s)
    method_listed key s e =
        shown_method key s
        ∙ ap (λ (b : Bool). programs.unless_ by b (ruled (key_rule by key)) s) e

    -- without a key
    pub method_keyless : (key : Key) (s : State) → key_rule by key ≡ None → shown_member by (a_method key) s ≡ (None, s)
    method_keyless key s e =
        shown_method key s
        ∙ (ap (λ (k : Option Key). programs.unless_ by (by.implements r) (ruled k) s) e ∙ none (by.implements r))
      where
        none : (b : Bool) → programs.unless_ by b (ruled None) s ≡ (None, s)
        none true = refl
        none false = refl

    -- any other
    pub method_kept : (key : Key) (s : State) (k : Key) → by.implements r ≡ false → key_rule by key ≡ Some k
        → shown_member by (a_method key) s
        ≡ after (λ (f : Function). Some (vMember.Method modifiers kind k.0 k.1 mark f r))
        ((shown_function by f).bare true (is_setter kind) s)
    method_kept key s k no_ e =
        shown_method key s
        ∙ (ap (λ (b : Bool). programs.unless_ by b (ruled (key_rule by key)) s) no_
        ∙ ap (λ (k : Option Key). ruled k s) e)

    module _ (x : List ℕ) (ts : List Token) where
      pub method_made : (old new : Draft) (key : Key) → by.implements r ≡ false
          → MethodPut x ts by old new kind modifiers mark r f (key_rule by key)
          → MemberMade x ts by old new true (a_method key)
      method_made old new key no_ m =
          let e : shown_member by (a_method key) (state_of old)
          ≡ (Some (vMember.Method modifiers kind m.it.0 m.it.1 mark m.function r), state_of new) =
          method_kept key (state_of old) m.it no_ m.is
          ∙ ap (after (λ (f : Function). Some (vMember.Method modifiers kind m.it.0 m.it.1 mark f r))) m.bare in
          record {
            state = sym (ap (λ (p : Option ClassMember × State). p.1) e);
            gives = subst (λ (o : Option ClassMember). Gives x ts member_in old.row new.row true o)
                (sym (ap (λ (p : Option ClassMember × State). p.0) e)) (refl, m.puts);
          }

  -- a member that goes
  pub gone_made : (x : List ℕ) (ts : List Token) (old : Draft) (it : ClassMember)
      → shown_member by it (state_of old) ≡ (None, state_of old) → MemberMade x ts by old old false it
  gone_made x ts old it e = record {
    state = sym (ap (λ (p : Option ClassMember × State). p.1) e);
    gives = subst (λ (o : Option ClassMember). Gives x ts member_in old.row old.row false o)
        (sym (ap (λ (p : Option ClassMember × State). p.0) e)) (refl, nothing_written x ts old.row);
  }
