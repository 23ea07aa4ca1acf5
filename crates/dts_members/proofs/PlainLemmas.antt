-- Methods of JavaScript, by what is written of them.
use Rattle.std.specs.Prelude.{ℕ, ◌+◌, Bool, true, false, List, [], ◌∷◌, ◌++◌, length, Option, Some, None}
use Rattle.std.proofs.Common.{◌≡◌, refl, sym, ap, subst, ◌∙◌}
use Rattle.base.specs.declared.range.Range.{Range}
use Rattle.es_token.specs.declared.token.Token.{Token}
use Rattle.es_ast.specs.declared.ts.leaf.MethodKind.{MethodKind}
use Rattle.es_ast.specs.declared.ast.ClassMember.{ClassMember}
use Rattle.es_ast.specs.declared.ast.ClassMember.TheVariants as vMember
use Rattle.es_ast.specs.declared.ast.Function.{Function}
use Rattle.es_ast.specs.declared.ast.Param.{Param}
use Rattle.es_ast.specs.declared.ast.Stmt.{Stmt}
use Rattle.es_lowering.specs.Value.{Value, Signature, absent, nil, more, token, node, given, part, group, first_of, behind, is_there}
use Rattle.es_lowering.specs.Texts.{span_of}
use Rattle.es_lowering.specs.Functions.{Key, function_of, method_at}
use Rattle.es_lowering.specs.Classes.{modified, method_member}
use Rattle.es_lowering.specs.TypedFunctions.{typed_function_of}
use Rattle.es_lowering.specs.Lowering.{packed}
use Rattle.es_syntax.specs.Places.{place_of}
use Rattle.es_syntax.specs.Roles.{key_in, params_in, stmt_in}
use Rattle.es_changed.specs.declared.entry.Change.TheVariants as change
use Rattle.es_changed.specs.declared.entry.Form.{Form}
use Rattle.es_changed.specs.Formed.{formed}
use Rattle.es_changed.specs.Shape.{closed, opened, Writes}
use Rattle.es_changed.proofs.Written.{both_written, form_written}
use Rattle.dts_rules.specs.Rules as rules
use Rattle.dts_rules.specs.Rules.{State, after, in_turn, is_setter}
use Rattle.dts_draft.specs.declared.draft.Draft.{Draft}
use Rattle.dts_draft.specs.Drafts.{state_of}
use Rattle.dts_draft.specs.Written.{IfThere}
use Rattle.dts_parts.specs.Params.{param_rule}
use Rattle.dts_fields.specs.Fields.{MemberMade}
use Rattle.dts_member_keys.specs.Keys.{key_rule, KeyPut}
use Rattle.dts_members.specs.Methods.{plain_of, IsForm, MethodPut, ParamsUpTo, PlainPut}
use Rattle.dts_members.proofs.MethodLemmas.{bare_is, gone_made, method_keyless, method_listed, method_made, unless_none}

-- where a node begins and ends
pub begins_at : (v : Value) (from to : ℕ) → place_of v ≡ Some (from, to) → first_of v ≡ from
begins_at (node f t m) from to e = ap first e
  where
    first : Option (ℕ × ℕ) → ℕ
    first (Some p) = p.0
    first None = 0
begins_at absent from to e = let bad : ⊥ = cc in absurd bad
begins_at nil from to e = let bad : ⊥ = cc in absurd bad
begins_at (token n) from to e = let bad : ⊥ = cc in absurd bad
begins_at (more u us) from to e = let bad : ⊥ = cc in absurd bad

pub ends_at : (v : Value) (from to : ℕ) → place_of v ≡ Some (from, to) → behind v ≡ to
ends_at (node f t m) from to e = ap second e
  where
    second : Option (ℕ × ℕ) → ℕ
    second (Some p) = p.1
    second None = 0
ends_at absent from to e = let bad : ⊥ = cc in absurd bad
ends_at nil from to e = let bad : ⊥ = cc in absurd bad
ends_at (token n) from to e = let bad : ⊥ = cc in absurd bad
ends_at (more u us) from to e = let bad : ⊥ = cc in absurd bad

module _ (by : rules.Env) (x : List ℕ) (ts : List Token) where
  -- ---- what is written
  pub plain_node : (f : Form) (kind : MethodKind) (is_async is_generator : Bool) → IsForm f kind is_async is_generator
      → (old begun first keyed last new : Draft) (place from to start end_ : ℕ) (p : Value) (key : Option Key)
      (params : Option (List Param)) (body : Option Stmt)
      → begun.row ≡ old.row ++ opened → place ≡ length old.row → Writes x ts begun.row first.row (part p 0 ∷ [])
      → KeyPut x ts first.row keyed.row key → state_of keyed ≡ state_of old
      → IfThere (ParamsUpTo x ts by keyed last start end_) params
      → new.row ≡ closed (change.Form f) from to place last.row → state_of new ≡ state_of last
      → PlainPut x ts by old new kind is_async is_generator (is_there (group p 0)) (span_of ts from to)
      (span_of ts start end_) key params body
  plain_node f kind a g is old begun first keyed last new place from to start end_ p key params body eo ep w0 k sk h en
      sn =
      go params h
    where
      one : (ps : List Param) → ParamsUpTo x ts by keyed last start end_ ps → (b : Stmt)
          → MethodPut x ts by old new kind (modified (is_there (group p 0)) false) false (span_of ts from to)
          (function_of a g (span_of ts start end_) None ps b) key
      one ps m b = record {
        it = k.key;
        is = k.is;
        function = typed_function_of a g (span_of ts start end_) None
            (None, (in_turn (param_rule by) ps (state_of old)).0, None) None;
        bare =
            bare_is by a g (span_of ts start end_) (None, ps, None) (Some b) (is_setter kind) (state_of old)
            ∙ (ap (λ ret. after (λ (sig : Signature). typed_function_of a g (span_of ts start end_) None sig None)
            ((None, (in_turn (param_rule by) ps (state_of old)).0, ret), (in_turn (param_rule by) ps (state_of old)).1))
            (unless_none by (is_setter kind))
            ∙ ap (λ (s : State). (
              typed_function_of a g (span_of ts start end_) None
                  (None, (in_turn (param_rule by) ps (state_of old)).0, None) None,
              s,
            )) (sym (sn ∙ (m.made.state ∙ ap (λ (s : State). (in_turn (param_rule by) ps s).1) sk))));
        puts = record {
          value = formed x ts f from to (packed (part p 0 ∷ k.puts.value ∷ m.made.puts.value ∷ []));
          writes = form_written x ts f from to place old.row begun.row last.row new.row
              (part p 0 ∷ k.puts.value ∷ m.made.puts.value ∷ []) eo ep
              (both_written x ts begun.row first.row last.row (part p 0 ∷ [])
              (k.puts.value ∷ m.made.puts.value ∷ []) w0
              (both_written x ts first.row keyed.row last.row (k.puts.value ∷ []) (m.made.puts.value ∷ []) k.puts.writes
              m.made.puts.writes)) en;
          is =
              is.is x ts from to (packed (part p 0 ∷ k.puts.value ∷ m.made.puts.value ∷ []))
              ∙ (ap (λ (o : Option Key). given o (λ key. given (params_in m.made.puts.value) (λ ps.
              put key ps (span_of ts (first_of m.made.puts.value) (behind m.made.puts.value))))) k.puts.is
              ∙ (ap (λ (o : Option (List Param)). given o (λ ps.
              put k.key ps (span_of ts (first_of m.made.puts.value) (behind m.made.puts.value)))) m.made.puts.is
              ∙ (ap (λ (n : ℕ). put k.key (in_turn (param_rule by) ps (state_of keyed)).0
              (span_of ts n (behind m.made.puts.value))) m.begins
              ∙ (ap (λ (n : ℕ). put k.key (in_turn (param_rule by) ps (state_of keyed)).0 (span_of ts start n)) m.ends
              ∙ ap (λ (s : State). put k.key (in_turn (param_rule by) ps s).0 (span_of ts start end_)) sk))));
        };
      }
        where
          put : Key → List Param → Range → Option ClassMember
          put key ps span =
              Some (vMember.Method (modified (is_there (group p 0)) false) kind key.0 key.1 false
              (typed_function_of a g span None (None, ps, None) None) (span_of ts from to))

      inner : (ps : List Param) → ParamsUpTo x ts by keyed last start end_ ps → (body : Option Stmt)
          → IfThere (λ b. MethodPut x ts by old new kind (modified (is_there (group p 0)) false) false
          (span_of ts from to) (function_of a g (span_of ts start end_) None ps b) key) body
      inner ps m None = record { is = tt }
      inner ps m (Some b) = record { is = one ps m b }

      go : (params : Option (List Param)) → IfThere (ParamsUpTo x ts by keyed last start end_) params
          → PlainPut x ts by old new kind a g (is_there (group p 0)) (span_of ts from to) (span_of ts start end_) key
          params body
      go None h = record { is = tt }
      go (Some ps) h = record { is = inner ps h.is body }

  -- from where its parameters begin to where its body ends
  pub plain_there : (old new : Draft) (kind : MethodKind) (is_async is_generator is_static : Bool) (r : Range)
      (key : Option Key) (params : Option (List Param)) (body : Option Stmt) (v w : Value) (from to begin end_ : ℕ)
      → place_of v ≡ Some (from, to) → place_of w ≡ Some (begin, end_)
      → PlainPut x ts by old new kind is_async is_generator is_static r (span_of ts from end_) key params body
      → PlainPut x ts by old new kind is_async is_generator is_static r (span_of ts (first_of v) (behind w)) key params
      body
  plain_there old new kind a g is_static r key params body v w from to begin end_ ev ew h =
      let P : ℕ → ℕ → Type 0 = λ m n.
      PlainPut x ts by old new kind a g is_static r (span_of ts m n) key params body in
      subst (λ (m : ℕ). P m (behind w)) (sym (begins_at v from to ev))
      (subst (P from) (sym (ends_at w begin end_ ew)) h)

  -- ---- members
  module _ (kind : MethodKind) (is_async is_generator is_static : Bool) (r span : Range) where
    abbrev method_of_ : Option Key → Option (List Param) → Option Stmt → Option ClassMember
    method_of_ = plain_of kind is_async is_generator is_static r span

    abbrev function_ : List Param → Stmt → Function
    function_ ps b = function_of is_async is_generator span None ps b

    -- the body of overloads
    pub plain_listed : (old : Draft) (key : Option Key) (params : Option (List Param)) (body : Option Stmt)
        → by.implements r ≡ true → IfThere (MemberMade x ts by old old false) (method_of_ key params body)
    plain_listed old None params body e = record { is = tt }
    plain_listed old (Some key) None body e = record { is = tt }
    plain_listed old (Some key) (Some ps) None e = record { is = tt }
    plain_listed old (Some key) (Some ps) (Some b) e = record {
      is = gone_made by x ts old _ (method_listed by (modified is_static false) kind false r (function_ ps b) key
          (state_of old) e);
    }

    -- without a key
    pub plain_keyless : (old : Draft) (key : Option Key) (params : Option (List Param)) (body : Option Stmt)
        → IfThere (λ key. key_rule by key ≡ None) key
        → IfThere (MemberMade x ts by old old false) (method_of_ key params body)
    plain_keyless old None params body e = record { is = tt }
    plain_keyless old (Some key) None body e = record { is = tt }
    plain_keyless old (Some key) (Some ps) None e = record { is = tt }
    plain_keyless old (Some key) (Some ps) (Some b) e = record {
      is = gone_made by x ts old _ (method_keyless by (modified is_static false) kind false r (function_ ps b) key
          (state_of old) e.is);
    }

    -- any other
    pub plain_kept : (old new : Draft) (key : Option Key) (params : Option (List Param)) (body : Option Stmt)
        → by.implements r ≡ false
        → IfThere (λ key. PlainPut x ts by old new kind is_async is_generator is_static r span (key_rule by key) params
        body) key
        → IfThere (MemberMade x ts by old new true) (method_of_ key params body)
    plain_kept old new None params body e h = record { is = tt }
    plain_kept old new (Some key) None body e h = record { is = tt }
    plain_kept old new (Some key) (Some ps) None e h = record { is = tt }
    plain_kept old new (Some key) (Some ps) (Some b) e h = record {
      is = method_made by (modified is_static false) kind false r (function_ ps b) x ts old new key e h.is.is.is;
    }

  -- ---- by the lowering
  pub method_member_is : (kind : MethodKind) (is_async is_generator : Bool) (r : Range) (p : Value) (n : ℕ)
      → method_member ts kind is_async is_generator r p n
      ≡ plain_of kind is_async is_generator (is_there (group p 0)) r
      (span_of ts (first_of (part p (n + 1))) (behind (part p (n + 1 + 1)))) (key_in (part p n))
      (params_in (part p (n + 1))) (stmt_in (part p (n + 1 + 1)))
  unfolding method_member method_at
  method_member_is kind a g r p n = go (key_in (part p n)) (params_in (part p (n + 1))) (stmt_in (part p (n + 1 + 1)))
    where
      span : Range
      span = span_of ts (first_of (part p (n + 1))) (behind (part p (n + 1 + 1)))

      go : (key : Option Key) (params : Option (List Param)) (body : Option Stmt)
          → given key (λ key. given (given params (λ ps. given body (λ b. Some (function_of a g span None ps b))))
          (λ function. Some (vMember.Method (modified (is_there (group p 0)) false) kind key.0 key.1 false function r)))
          ≡ plain_of kind a g (is_there (group p 0)) r span key params body
      go None params body = refl
      go (Some key) None body = refl
      go (Some key) (Some ps) None = refl
      go (Some key) (Some ps) (Some b) = refl

  pub plain_parts : (old new : Draft) (wrote : Bool) (kind : MethodKind) (is_async is_generator : Bool) (r : Range)
      (p : Value) (n : ℕ) (key params body : Value) → part p n ≡ key → part p (n + 1) ≡ params
      → part p (n + 1 + 1) ≡ body
      → IfThere (MemberMade x ts by old new wrote) (plain_of kind is_async is_generator (is_there (group p 0)) r
      (span_of ts (first_of params) (behind body)) (key_in key) (params_in params) (stmt_in body))
      → IfThere (MemberMade x ts by old new wrote) (method_member ts kind is_async is_generator r p n)
  plain_parts old new wrote kind a g r p n key params body ek ep eb h =
      let P : Value → Value → Value → Type 0 = λ k ps b.
      IfThere (MemberMade x ts by old new wrote) (plain_of kind a g (is_there (group p 0)) r
      (span_of ts (first_of ps) (behind b)) (key_in k) (params_in ps) (stmt_in b)) in
      subst (λ (o : Option ClassMember). IfThere (MemberMade x ts by old new wrote) o)
      (sym (method_member_is kind a g r p n))
      (subst (λ (k : Value). P k (part p (n + 1)) (part p (n + 1 + 1))) (sym ek)
      (subst (λ (ps : Value). P key ps (part p (n + 1 + 1))) (sym ep) (subst (P key params) (sym eb) h)))
