-- What functions and arrows have.
use Rattle.std.specs.Prelude.{ℕ, Bool, true, false, List, [], ◌∷◌, ◌++◌, length, take, Option, Some, None, option_map, map, IfSome, slice_get}
use Rattle.std.proofs.Common.{◌≡◌, refl, sym, ap, subst, ◌∙◌}
use Rattle.base.specs.declared.range.Range.{Range}
use Rattle.es_token.specs.declared.token.Token.{Token}
use Rattle.es_ast.specs.declared.ts.leaf.Ident.{Ident}
use Rattle.es_ast.specs.declared.ts.ts.Nodes.{Nodes}
use Rattle.es_ast.specs.declared.ts.ts.TsFnParam.{TsFnParam}
use Rattle.es_ast.specs.declared.ts.ts.TsPart.{TsPart}
use Rattle.es_ast.specs.declared.ts.ts.TsPart.TheVariants as vPart
use Rattle.es_ast.specs.declared.ts.ts.TsType.{TsType}
use Rattle.es_ast.specs.declared.ts.ts.TsType.TheVariants as vType
use Rattle.es_ast.specs.declared.ts.ts.TsTypeParam.{TsTypeParam}
use Rattle.es_ast.specs.declared.ast.Expr.{Expr}
use Rattle.es_ast.specs.declared.ast.Expr.TheVariants as vExpr
use Rattle.es_ast.specs.declared.ast.Function.{Function, roll-Function}
use Rattle.es_ast.specs.declared.ast.Param.{Param}
use Rattle.es_ast.specs.declared.ast.Stmt.{Stmt}
use Rattle.es_ast.specs.declared.ast.ClassMember.TheOpen.{Expr-F, Function-F}
use Rattle.es_site.specs.Parts.{Whole}
use Rattle.es_lowering.specs.Value.{Value, Signature, nil, more, given, part, as_group, optional, type_at, type_params_at}
use Rattle.es_lowering.specs.Texts.{own_name_of}
use Rattle.es_lowering.specs.Functions.{arrow_of, body_of, function_of, name_param}
use Rattle.es_lowering.specs.TypedFunctions.{typed_function_of}
use Rattle.es_lowering.specs.TypedParts.{body_in}
use Rattle.es_lowering.specs.Types.{function_type}
use Rattle.es_lowering.specs.Lowering.{packed}
use Rattle.es_syntax.specs.Roles.{fn_params_in, ts_type_in}
use Rattle.es_syntax.specs.declared.entry.What.TheVariants as what
use Rattle.es_changed.specs.declared.entry.Change.TheVariants as change
use Rattle.es_changed.specs.declared.entry.Form.TheVariants as form
use Rattle.es_changed.specs.declared.entry.Word.TheVariants as word
use Rattle.es_changed.specs.declared.entry.ChangedEntry.{ChangedEntry}
use Rattle.es_changed.specs.Formed.{formed, word_type}
use Rattle.es_changed.specs.Changed.{type_node}
use Rattle.es_changed.specs.Shape.{closed, opened, Writes}
use Rattle.es_changed.proofs.Written.{both_written, form_written, group_written}
use Rattle.es_view_expressions.specs.function.Function as function_view
use Rattle.es_view_expressions.specs.function.Head as head_view
use Rattle.es_view_statements.specs.param.Signature as signature_view
use Rattle.dts_rules.specs.Made.{nowhere, any_type}
use Rattle.dts_rules.specs.Rules as rules
use Rattle.dts_rules.specs.Rules.{Env, Shown, ShownFunction, ShownParam, State, after, in_turn, some, type_params_in, or_any_type}
use Rattle.dts_rules.specs.Sets.{type_in}
use Rattle.dts_rules.specs.Programs.{shown_expr, shown_function}
use Rattle.dts_rules.proofs.Shown.{at_function, with_param}
use Rattle.dts_draft.specs.declared.draft.Draft.{Draft}
use Rattle.dts_draft.specs.Drafts.{state_of}
use Rattle.dts_draft.specs.Written.{IfThere, Puts}
use Rattle.dts_draft.proofs.There.{lifted, given_any}
use Rattle.dts_kept.proofs.TypeForms.{frozen_Fn}
use Rattle.dts_leaves.proofs.Shown.{shown_by}
use Rattle.dts_types.specs.declared.ask.Ask.{Ask}
use Rattle.dts_types.specs.Types.{by_frozen, asked, param_step, Answers, Infers, AreParams, IsFunction, ParamsGroup}
use Rattle.dts_types.proofs.TurnLemmas.{in_turn_map}

module _ (x : List ℕ) (ts : List Token) where
  -- ---- parts
  pub group_there : (old begun mid new : List ChangedEntry) (place : ℕ) (row v vs : Value) → row ≡ more v vs
      → begun ≡ old ++ opened → place ≡ length old → Writes x ts begun mid (v ∷ [])
      → new ≡ closed (change.Old what.Parts) 0 0 place mid
      → IfThere (ParamsGroup x ts old new)
      (option_map (λ ps. option_map vPart.TypeParams ps) (optional type_params_at row))
  group_there old begun mid new place row v vs e eo ep w c =
      subst (λ (u : Value). IfThere (ParamsGroup x ts old new)
      (option_map (λ ps. option_map vPart.TypeParams ps) (optional type_params_at u))) (sym e)
      (go (type_params_at (more v vs) 0) refl)
    where
      go : (o : Option (Nodes TsTypeParam)) → type_params_at (more v vs) 0 ≡ o
          → IfThere (ParamsGroup x ts old new) (option_map (λ ps. option_map vPart.TypeParams ps) (option_map Some o))
      go None is = record { is = tt }
      go (Some ps) is = record {
        is = record {
          value = packed (v ∷ []);
          writes = group_written x ts 0 0 place old begun mid new (v ∷ []) eo ep w c;
          is = ap (option_map Some) is;
        };
      }

  pub group_none : (old new : List ChangedEntry) (row : Value) → row ≡ nil → Writes x ts old new (nil ∷ [])
      → IfThere (ParamsGroup x ts old new)
      (option_map (λ ps. option_map vPart.TypeParams ps) (optional type_params_at row))
  group_none old new row e w =
      subst (λ (u : Value). IfThere (ParamsGroup x ts old new)
      (option_map (λ ps. option_map vPart.TypeParams ps) (optional type_params_at u))) (sym e)
      (record { is = record { value = nil; writes = w; is = refl } })

  pub result_there : (old new : List ChangedEntry) (row v vs : Value) → row ≡ more v vs → Writes x ts old new (v ∷ [])
      → IfThere (λ ty. Puts x ts ts_type_in old new (or_any_type (type_in ty)))
      (option_map (λ ty. option_map vPart.TypeAnn ty) (optional type_at row))
  result_there old new row v vs e w =
      subst (λ (u : Value). IfThere (λ ty. Puts x ts ts_type_in old new (or_any_type (type_in ty)))
      (option_map (λ ty. option_map vPart.TypeAnn ty) (optional type_at u))) (sym e) (go (type_at (more v vs) 0) refl)
    where
      go : (o : Option TsType) → type_at (more v vs) 0 ≡ o
          → IfThere (λ ty. Puts x ts ts_type_in old new (or_any_type (type_in ty)))
          (option_map (λ ty. option_map vPart.TypeAnn ty) (option_map Some o))
      go None is = record { is = tt }
      go (Some ty) is = record { is = record { value = v; writes = w; is = is } }

  pub result_none : (old new : List ChangedEntry) (row : Value) → row ≡ nil
      → Writes x ts old new (type_node 0 0 (Some (word_type word.Any)) ∷ [])
      → IfThere (λ ty. Puts x ts ts_type_in old new (or_any_type (type_in ty)))
      (option_map (λ ty. option_map vPart.TypeAnn ty) (optional type_at row))
  result_none old new row e w =
      subst (λ (u : Value). IfThere (λ ty. Puts x ts ts_type_in old new (or_any_type (type_in ty)))
      (option_map (λ ty. option_map vPart.TypeAnn ty) (optional type_at u))) (sym e)
      (record { is = record { value = type_node 0 0 (Some (word_type word.Any)); writes = w; is = refl } })

  -- a function's type, by what its parts are
  function_is : (u v w : Value) (tps : Option (Nodes TsTypeParam)) (ps : List TsFnParam) (ty : TsType)
      → optional type_params_at (as_group u) ≡ Some tps → fn_params_in v ≡ Some ps → ts_type_in w ≡ Some ty
      → ts_type_in (formed x ts form.Function 0 0 (packed (u ∷ v ∷ w ∷ []))) ≡ Some (vType.Fn tps ps ty nowhere)
  unfolding function_type
  function_is u v w tps ps ty e f g =
      ap (λ (o : Option (Option (Nodes TsTypeParam))). given o
      (λ tps. given (fn_params_in v) (λ ps. given (ts_type_in w)
      (λ ty. Some (vType.Fn tps ps ty nowhere))))) e
      ∙ (ap (λ (o : Option (List TsFnParam)). given o
      (λ ps. given (ts_type_in w) (λ ty. Some (vType.Fn tps ps ty nowhere)))) f
      ∙ ap (λ (o : Option TsType). given o (λ ty. Some (vType.Fn tps ps ty nowhere))) g)

module _ (env : Env) where
  -- ---- the rule of a function
  params_mapped : (ps : List Param) (s : State)
      → in_turn (λ (p : Param × ShownParam). p.1.as_type) (map (with_param env) ps) s ≡ in_turn (param_step env) ps s
  params_mapped ps s = in_turn_map (with_param env) (λ (p : Param × ShownParam). p.1.as_type) ps s

  function_shown : (w : Whole Function-F) (s : State)
      → (shown_function env (roll-Function w)).ty s
      ≡ after (λ params. Some
      (vType.Fn (type_params_in w.type_params) (some params) (or_any_type (type_in w.return_type)) nowhere))
      (in_turn (param_step env) w.params s)
  function_shown w s =
      ap (λ (k : ShownFunction). k.ty s) (at_function env w)
      ∙ ap (after (λ params. Some (vType.Fn (type_params_in w.type_params) (some params)
      (or_any_type (type_in w.return_type)) nowhere))) (params_mapped w.params s)

  -- it is the same where the value is frozen
  by_function : (froze : Bool) (tps : Option (Nodes TsTypeParam)) (ps : List TsFnParam) (ty : TsType) (s : State)
      → by_frozen froze (Some (vType.Fn tps ps ty nowhere), s) ≡ (Some (vType.Fn tps ps ty nowhere), s)
  by_function true tps ps ty s = ap (λ (o : Option TsType). (o, s)) (frozen_Fn tps ps ty nowhere)
  by_function false tps ps ty s = refl

  module _ (x : List ℕ) (ts : List Token) where
    -- an expression with the type of this function
    typed_by : (ask : Ask) (old new : Draft) (e : Expr) (w : Whole Function-F)
        → ((c r : Bool) (s : State) → (shown_expr env e).rule c r s ≡ (shown_function env (roll-Function w)).ty s)
        → IsFunction x ts env old new (w.type_params, w.params, w.return_type) → Infers x ts env ask old new true e
    typed_by ask old new e w shown h =
        subst (Answers x ts old new true)
        (sym (ap (by_frozen ask.frozen)
        (shown ask.literal ask.readonly (state_of old) ∙ function_shown w (state_of old))
        ∙ by_function ask.frozen (type_params_in w.type_params)
        (some (in_turn (param_step env) w.params (state_of old)).0)
        (or_any_type (type_in w.return_type)) (in_turn (param_step env) w.params (state_of old)).1))
        (refl, h.state, h.puts)

    fn_typed : (ask : Ask) (old new : Draft) (w : Whole Function-F)
        → IsFunction x ts env old new (w.type_params, w.params, w.return_type)
        → Infers x ts env ask old new true (vExpr.Fn (roll-Function w))
    fn_typed ask old new w h =
        typed_by ask old new _ w (λ c r s.
        ap (λ (k : Shown). k.rule c r s)
        (shown_by env _ (Expr-F.Expr::Fn (roll-Function w)) (vExpr.rolls-Fn (roll-Function w)))) h

    arrow_typed : (ask : Ask) (old new : Draft) (w : Whole Function-F)
        → IsFunction x ts env old new (w.type_params, w.params, w.return_type)
        → Infers x ts env ask old new true (vExpr.Arrow (roll-Function w))
    arrow_typed ask old new w h =
        typed_by ask old new _ w (λ c r s.
        ap (λ (k : Shown). k.rule c r s)
        (shown_by env _ (Expr-F.Arrow (roll-Function w)) (vExpr.rolls-Arrow (roll-Function w)))) h

    -- ---- the forms
    pub plain_function : (ask : Ask) (old new : Draft) (r : Range) (is_async is_generator : Bool) (name : Value)
        (params : Option (List Param)) (body : Option Stmt)
        → IfThere (λ ps. IsFunction x ts env old new (None, ps, None)) params
        → IfThere (Infers x ts env ask old new true)
        (option_map vExpr.Fn (head_view.plain_function x ts r is_async is_generator name params body))
    unfolding head_view.plain_function
    plain_function ask old new r is_async is_generator name params body h = go (own_name_of x ts name) params body h
      where
        go : (n : Option (Option Ident)) (ps : Option (List Param)) (b : Option Stmt)
            → IfThere (λ ps. IsFunction x ts env old new (None, ps, None)) ps
            → IfThere (Infers x ts env ask old new true) (option_map vExpr.Fn (given n (λ name. given ps (λ params.
            given b (λ body. Some (function_of is_async is_generator r name params body))))))
        go None ps b h = record { is = tt }
        go (Some n) None b h = record { is = tt }
        go (Some n) (Some ps) None h = record { is = tt }
        go (Some n) (Some ps) (Some b) h = record {
          is = fn_typed ask old new (record {
            ident = n;
            is_async = is_async;
            is_generator = is_generator;
            type_params = None;
            params = ps;
            return_type = None;
            body = Some b;
            span = r;
          }) h.is;
        }

    pub typed_function : (ask : Ask) (old new : Draft) (r : Range) (is_async is_generator : Bool) (name : Value)
        (signature : Option Signature) (body : Value) → IfThere (IsFunction x ts env old new) signature
        → IfThere (Infers x ts env ask old new true)
        (option_map vExpr.Fn (head_view.typed_function x ts r is_async is_generator name signature body))
    unfolding head_view.typed_function
    typed_function ask old new r is_async is_generator name signature body h =
        go (own_name_of x ts name) signature (body_in body) h
      where
        go : (n : Option (Option Ident)) (s : Option Signature) (b : Option (Option Stmt))
            → IfThere (IsFunction x ts env old new) s
            → IfThere (Infers x ts env ask old new true) (option_map vExpr.Fn (given n (λ name. given s (λ signature.
            given b (λ body. Some (typed_function_of is_async is_generator r name signature body))))))
        go None s b h = record { is = tt }
        go (Some n) None b h = record { is = tt }
        go (Some n) (Some s) None h = record { is = tt }
        go (Some n) (Some s) (Some b) h = record {
          is = fn_typed ask old new (record {
            ident = n;
            is_async = is_async;
            is_generator = is_generator;
            type_params = s.0;
            params = s.1;
            return_type = s.2;
            body = b;
            span = r;
          }) h.is;
        }

    arrow_there : (ask : Ask) (old new : Draft) (r : Range) (is_async : Bool) (params : Option (List Param))
        (b : Option Stmt)
        → IfThere (λ ps. IsFunction x ts env old new (None, ps, None)) params
        → IfThere (Infers x ts env ask old new true)
        (given params (λ params. given b (λ body. Some (arrow_of is_async r params body))))
    arrow_there ask old new r is_async None b h = record { is = tt }
    arrow_there ask old new r is_async (Some ps) None h = record { is = tt }
    arrow_there ask old new r is_async (Some ps) (Some b) h = record {
      is = arrow_typed ask old new (record {
        ident = None;
        is_async = is_async;
        is_generator = false;
        type_params = None;
        params = ps;
        return_type = None;
        body = Some b;
        span = r;
      }) h.is;
    }

    pub arrow : (ask : Ask) (old new : Draft) (r : Range) (is_async : Bool) (params : Option (List Param))
        (body : Value)
        → IfThere (λ ps. IsFunction x ts env old new (None, ps, None)) params
        → IfThere (Infers x ts env ask old new true) (function_view.arrow ts r is_async params body)
    unfolding function_view.arrow
    arrow ask old new r is_async params body h = arrow_there ask old new r is_async params (body_of ts body) h

    pub named_arrow : (ask : Ask) (old new : Draft) (r : Range) (is_async : Bool) (param : Option Token) (body : Value)
        → IfThere (λ t. IsFunction x ts env old new (None, name_param x t ∷ [], None)) param
        → IfThere (Infers x ts env ask old new true) (function_view.named_arrow x ts r is_async param body)
    unfolding function_view.named_arrow
    named_arrow ask old new r is_async None body h = record { is = tt }
    named_arrow ask old new r is_async (Some t) body h =
        arrow_there ask old new r is_async (Some (name_param x t ∷ [])) (body_of ts body) (record { is = h.is })

    pub typed_arrow : (ask : Ask) (old new : Draft) (r : Range) (is_async : Bool) (type_params : Value)
        (params : Option (List Param)) (return_type body : Value)
        → IfThere (IsFunction x ts env old new) (signature_view.typed type_params params return_type)
        → IfThere (Infers x ts env ask old new true)
        (function_view.typed_arrow_of ts r is_async type_params params return_type body)
    unfolding function_view.typed_arrow_of signature_view.typed
    typed_arrow ask old new r is_async type_params params return_type body h =
        go (option_map (λ ps. option_map vPart.TypeParams ps) (optional type_params_at type_params)) params
        (option_map (λ ty. option_map vPart.TypeAnn ty) (optional type_at return_type)) (body_of ts body) h
      where
        go : (a : Option (Option TsPart)) (ps : Option (List Param)) (c : Option (Option TsPart)) (b : Option Stmt)
            → IfThere (IsFunction x ts env old new) (given a (λ type_params. given ps (λ params. given c (λ result.
            Some (type_params, params, result)))))
            → IfThere (Infers x ts env ask old new true)
            (given a (λ type_params. given ps (λ params. given c (λ return_type.
            given b (λ body. Some (vExpr.Arrow (typed_function_of is_async false r None
            (type_params, params, return_type) (Some body))))))))
        go None ps c b h = record { is = tt }
        go (Some a) None c b h = record { is = tt }
        go (Some a) (Some ps) None b h = record { is = tt }
        go (Some a) (Some ps) (Some c) None h = record { is = tt }
        go (Some a) (Some ps) (Some c) (Some b) h = record {
          is = arrow_typed ask old new (record {
            ident = None;
            is_async = is_async;
            is_generator = false;
            type_params = a;
            params = ps;
            return_type = c;
            body = Some b;
            span = r;
          }) h.is;
        }

    -- ---- what is written
    made : (old begun grouped listed mid new : Draft) (place : ℕ) (a : Option TsPart) (ps : List Param)
        (c : Option TsPart)
        (u : Value) → begun.row ≡ old.row ++ opened → place ≡ length old.row → state_of grouped ≡ state_of old
        → Writes x ts begun.row grouped.row (u ∷ []) → optional type_params_at (as_group u) ≡ Some (type_params_in a)
        → AreParams x ts env grouped listed ps → Puts x ts ts_type_in listed.row mid.row (or_any_type (type_in c))
        → state_of mid ≡ state_of listed → new.row ≡ closed (change.Form form.Function) 0 0 place mid.row
        → state_of new ≡ state_of mid → IsFunction x ts env old new (a, ps, c)
    made old begun grouped listed mid new place a ps c u eo ep sg w eu p q sm cl sn = record {
      state = sn ∙ (sm ∙ (p.state ∙ ap (λ (s : State). (in_turn (param_step env) ps s).1) sg));
      puts = subst (λ (s : State). Puts x ts ts_type_in old.row new.row
          (vType.Fn (type_params_in a) (some (in_turn (param_step env) ps s).0) (or_any_type (type_in c)) nowhere)) sg
          (record {
            value = formed x ts form.Function 0 0 (packed (u ∷ p.puts.value ∷ q.value ∷ []));
            writes = form_written x ts form.Function 0 0 place old.row begun.row mid.row new.row
                (u ∷ p.puts.value ∷ q.value ∷ []) eo ep
                (both_written x ts begun.row grouped.row mid.row (u ∷ []) _ w
                (both_written x ts grouped.row listed.row mid.row (p.puts.value ∷ []) (q.value ∷ []) p.puts.writes
                q.writes)) cl;
            is = function_is x ts u p.puts.value q.value (type_params_in a)
                (some (in_turn (param_step env) ps (state_of grouped)).0) (or_any_type (type_in c)) eu p.puts.is q.is;
          });
    }

    pub plain_made : (old begun grouped listed mid new : Draft) (place : ℕ) (o : Option (List Param))
        → begun.row ≡ old.row ++ opened → place ≡ length old.row → state_of grouped ≡ state_of old
        → Writes x ts begun.row grouped.row (nil ∷ []) → IfThere (AreParams x ts env grouped listed) o
        → Writes x ts listed.row mid.row (type_node 0 0 (Some (word_type word.Any)) ∷ [])
        → state_of mid ≡ state_of listed
        → new.row ≡ closed (change.Form form.Function) 0 0 place mid.row → state_of new ≡ state_of mid
        → IfThere (λ ps. IsFunction x ts env old new (None, ps, None)) o
    plain_made old begun grouped listed mid new place o eo ep sg w h v sm cl sn =
        lifted (λ ps p. made old begun grouped listed mid new place None ps None nil eo ep sg w refl p
        (record { value = type_node 0 0 (Some (word_type word.Any)); writes = v; is = refl }) sm cl sn) h

    pub name_made : (old begun grouped listed mid new : Draft) (place : ℕ) (o : Option Token)
        → begun.row ≡ old.row ++ opened → place ≡ length old.row → state_of grouped ≡ state_of old
        → Writes x ts begun.row grouped.row (nil ∷ [])
        → IfThere (λ t. AreParams x ts env grouped listed (name_param x t ∷ [])) o
        → Writes x ts listed.row mid.row (type_node 0 0 (Some (word_type word.Any)) ∷ [])
        → state_of mid ≡ state_of listed
        → new.row ≡ closed (change.Form form.Function) 0 0 place mid.row → state_of new ≡ state_of mid
        → IfThere (λ t. IsFunction x ts env old new (None, name_param x t ∷ [], None)) o
    name_made old begun grouped listed mid new place o eo ep sg w h v sm cl sn =
        lifted (λ t p. made old begun grouped listed mid new place None (name_param x t ∷ []) None nil eo ep sg w refl p
        (record { value = type_node 0 0 (Some (word_type word.Any)); writes = v; is = refl }) sm cl sn) h

    pub typed_made : (old begun grouped listed mid new : Draft) (place : ℕ) (type_params : Value)
        (params : Option (List Param)) (return_type : Value)
        → begun.row ≡ old.row ++ opened → place ≡ length old.row → state_of grouped ≡ state_of old
        → IfThere (ParamsGroup x ts begun.row grouped.row)
        (option_map (λ ps. option_map vPart.TypeParams ps) (optional type_params_at type_params))
        → IfThere (AreParams x ts env grouped listed) params
        → IfThere (λ ty. Puts x ts ts_type_in listed.row mid.row (or_any_type (type_in ty)))
        (option_map (λ ty. option_map vPart.TypeAnn ty) (optional type_at return_type)) → state_of mid ≡ state_of listed
        → new.row ≡ closed (change.Form form.Function) 0 0 place mid.row → state_of new ≡ state_of mid
        → IfThere (IsFunction x ts env old new) (signature_view.typed type_params params return_type)
    unfolding signature_view.typed
    typed_made old begun grouped listed mid new place type_params params return_type eo ep sg g h k sm cl sn =
        go (option_map (λ ps. option_map vPart.TypeParams ps) (optional type_params_at type_params)) params
        (option_map (λ ty. option_map vPart.TypeAnn ty) (optional type_at return_type)) g h k
      where
        go : (a : Option (Option TsPart)) (ps : Option (List Param)) (c : Option (Option TsPart))
            → IfThere (ParamsGroup x ts begun.row grouped.row) a → IfThere (AreParams x ts env grouped listed) ps
            → IfThere (λ ty. Puts x ts ts_type_in listed.row mid.row (or_any_type (type_in ty))) c
            → IfThere (IsFunction x ts env old new) (given a (λ type_params. given ps (λ params. given c (λ result.
            Some (type_params, params, result)))))
        go None ps c g h k = record { is = tt }
        go (Some a) None c g h k = record { is = tt }
        go (Some a) (Some ps) None g h k = record { is = tt }
        go (Some a) (Some ps) (Some c) g h k = record {
          is = made old begun grouped listed mid new place a ps c g.is.value eo ep sg g.is.writes g.is.is h.is k.is sm
              cl sn;
        }
