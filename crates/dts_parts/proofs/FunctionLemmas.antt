-- What functions are, by what is written of them.
use Rattle.std.specs.Prelude.{ℕ, Bool, true, false, List, [], ◌∷◌, ◌++◌, length, Option, Some, None, option_map, map}
use Rattle.std.proofs.Common.{◌≡◌, refl, sym, ap, subst, ◌∙◌}
use Rattle.base.specs.declared.range.Range.{Range}
use Rattle.es_token.specs.declared.token.Token.{Token}
use Rattle.es_grammar.specs.declared.rows.NodeKind.{NodeKind}
use Rattle.es_grammar.specs.declared.rows.NodeKind.TheVariants as l
use Rattle.es_ast.specs.declared.ts.leaf.Ident.{Ident}
use Rattle.es_ast.specs.declared.ts.ts.TsPart.{TsPart}
use Rattle.es_ast.specs.declared.ast.Decl.TheVariants as vDecl
use Rattle.es_ast.specs.declared.ast.Function.{Function}
use Rattle.es_ast.specs.declared.ast.Param.{Param}
use Rattle.es_ast.specs.declared.ast.Stmt.{Stmt}
use Rattle.es_lowering.specs.Value.{Value, Signature, nil, more, token, given, part, as_group, group, is_there, stmt_at}
use Rattle.es_lowering.specs.Texts.{span_of, own_name_at}
use Rattle.es_lowering.specs.Functions as functions
use Rattle.es_lowering.specs.TypedFunctions.{typed_function, typed_function_of}
use Rattle.es_lowering.specs.TypedParts.{typed_signature, annotation_at, params_part_at, body_in}
use Rattle.es_lowering.specs.TypedStatements.{Declarable}
use Rattle.es_lowering.specs.Lowering.{packed, build, decl_of, declarable_of, signature_of}
use Rattle.es_syntax.specs.declared.entry.What.TheVariants as vWhat
use Rattle.es_syntax.specs.declared.entry.What.{What}
use Rattle.es_syntax.specs.declared.cursor.Item.{Item}
use Rattle.es_syntax.specs.Held.{held, made, node_of, parts_of, valued}
use Rattle.es_syntax.specs.Roles.{declarable_in, decl_in, params_in, signature_in}
use Rattle.es_changed.specs.declared.entry.Change.TheVariants as change
use Rattle.es_changed.specs.declared.entry.ChangedEntry.{ChangedEntry}
use Rattle.es_changed.specs.Shape.{closed, opened, Writes}
use Rattle.es_changed.proofs.Written.{both_written, node_written}
use Rattle.dts_rules.specs.Rules as rules
use Rattle.dts_rules.specs.Rules.{Env, State, ShownFunction, ShownParam, after, in_turn}
use Rattle.dts_rules.specs.Programs.{shown_function}
use Rattle.dts_rules.proofs.Shown.{at_function, with_param}
use Rattle.dts_draft.specs.declared.draft.Draft.{Draft}
use Rattle.dts_draft.specs.Drafts.{state_of}
use Rattle.dts_draft.specs.Written.{IfThere}
use Rattle.dts_parts.specs.Groups.{KeptGroup}
use Rattle.dts_parts.specs.Params.{param_rule, Made}
use Rattle.dts_parts.specs.Functions.{params_rule, signature_rule, plain_rule, typed_label, Bodyless, FunctionMade}

module _ (x : List ℕ) (ts : List Token) where
  -- ---- bodies
  pub no_body : (old mid new : List ChangedEntry) → Writes x ts old mid (nil ∷ []) → Writes x ts mid new []
      → Bodyless x ts old new
  no_body old mid new w g =
      record { value = nil; writes = both_written x ts old mid new (nil ∷ []) [] w g; is = refl }

  pub absent_body : (old new : List ChangedEntry) → Writes x ts old new (nil ∷ []) → Bodyless x ts old new
  absent_body old new w = record { value = nil; writes = w; is = refl }

  pub sign_body : (old new : List ChangedEntry) (row vs : Value) (n : ℕ) → row ≡ more (token n) vs
      → KeptGroup x ts old new row → Bodyless x ts old new
  sign_body old new row vs n e k =
      record { value = k.value; writes = k.writes; is = ap body_in (k.is ∙ e) }

module _ (by : Env) where
  -- ---- what the rules make of a function
  turned : (ps : List Param) (s : State)
      → in_turn (λ (p : Param × ShownParam). p.1.declared) (map (with_param by) ps) s ≡ in_turn (param_rule by) ps s
  turned [] s = refl
  turned (p ∷ ps) s =
      ap (λ (q : List Param × State). ((param_rule by p s).0 ∷ q.0, q.1)) (turned ps (param_rule by p s).1)

  untouched : (ps : List Param) → map (λ (p : Param × ShownParam). p.0) (map (with_param by) ps) ≡ ps
  untouched [] = refl
  untouched (p ∷ ps) = ap (λ rest. p ∷ rest) (untouched ps)

  params_are : (ruled : Bool) (ps : List Param) (s : State)
      → rules.params_by by ruled (map (with_param by) ps) s ≡ params_rule by ruled ps s
  params_are true ps s = turned ps s
  params_are false ps s = ap (λ (ps : List Param). (ps, s)) (untouched ps)

  pub bare_is : (is_async is_generator : Bool) (r : Range) (name : Option Ident) (sig : Signature) (body : Option Stmt)
      (ruled : Bool) (s : State)
      → (shown_function by (typed_function_of is_async is_generator r name sig body)).bare ruled false s
      ≡ after (λ ps. typed_function_of is_async is_generator r name (sig.0, ps, sig.2) None)
      (params_rule by ruled sig.1 s)
  bare_is is_async is_generator r name sig body ruled s =
      ap (λ (k : ShownFunction). k.bare ruled false s) (at_function by (record {
        ident = name;
        is_async = is_async;
        is_generator = is_generator;
        type_params = sig.0;
        params = sig.1;
        return_type = sig.2;
        body = body;
        span = r;
      }))
      ∙ ap (after (λ ps. typed_function_of is_async is_generator r name (sig.0, ps, sig.2) None))
      (params_are ruled sig.1 s)

  module _ (x : List ℕ) (ts : List Token) where
    -- ---- parameters that stay
    pub params_kept : (old new : Draft) (v : Value) (ruled : Bool) → ruled ≡ false
        → Writes x ts old.row new.row (v ∷ []) → state_of new ≡ state_of old
        → IfThere (Made x ts params_in (params_rule by ruled) old new) (params_in v)
    params_kept old new v ruled e w sn =
        subst (λ (ruled : Bool). IfThere (Made x ts params_in (params_rule by ruled) old new) (params_in v)) (sym e)
        (go (params_in v) refl)
      where
        go : (o : Option (List Param)) → params_in v ≡ o
            → IfThere (Made x ts params_in (params_rule by false) old new) o
        go None is = record { is = tt }
        go (Some ps) is = record { is = record { state = sn; puts = record { value = v; writes = w; is = is } } }

    pub params_ruled : (old new : Draft) (o : Option (List Param)) (ruled : Bool) → ruled ≡ true
        → IfThere (Made x ts params_in (in_turn (param_rule by)) old new) o
        → IfThere (Made x ts params_in (params_rule by ruled) old new) o
    params_ruled old new o ruled e h =
        subst (λ (ruled : Bool). IfThere (Made x ts params_in (params_rule by ruled) old new) o) (sym e) h

    -- ---- signatures
    pub plain_signature : (old begun first mid last new : Draft) (place from to : ℕ) (ruled : Bool)
        (o : Option (List Param))
        → begun.row ≡ old.row ++ opened → place ≡ length old.row → Writes x ts begun.row first.row (nil ∷ [])
        → state_of first ≡ state_of old → IfThere (Made x ts params_in (params_rule by ruled) first mid) o
        → Writes x ts mid.row last.row (nil ∷ [])
        → new.row ≡ closed (change.Old (vWhat.Node l.TypedSignature)) from to place last.row
        → state_of new ≡ state_of mid
        → IfThere (Made x ts signature_in (plain_rule by ruled) old new) o
    unfolding build signature_of typed_signature
    plain_signature old begun first mid last new place from to ruled None eo ep w0 sf h w2 en sn = record { is = tt }
    plain_signature old begun first mid last new place from to ruled (Some ps) eo ep w0 sf h w2 en sn = record {
      is = record {
        state = sn ∙ (h.is.state ∙ ap (λ (s : State). (params_rule by ruled ps s).1) sf);
        puts = record {
          value = node_of x ts l.TypedSignature from to (packed (nil ∷ h.is.puts.value ∷ nil ∷ []));
          writes = node_written x ts l.TypedSignature from to place old.row begun.row last.row new.row
              (nil ∷ h.is.puts.value ∷ nil ∷ []) eo ep
              (both_written x ts begun.row first.row last.row (nil ∷ []) (h.is.puts.value ∷ nil ∷ []) w0
              (both_written x ts first.row mid.row last.row (h.is.puts.value ∷ []) (nil ∷ []) h.is.puts.writes w2)) en;
          is = ap (λ (o : Option (List Param)). given o (λ ps. Some (None, ps, None))) h.is.puts.is
              ∙ ap (λ (s : State). Some (None, (params_rule by ruled ps s).0, None)) sf;
        };
      };
    }

    pub typed_signature_made : (old begun first mid last new : Draft) (place from to : ℕ) (ruled : Bool) (p v : Value)
        → part p 1 ≡ v → begun.row ≡ old.row ++ opened → place ≡ length old.row
        → Writes x ts begun.row first.row (part p 0 ∷ []) → state_of first ≡ state_of old
        → IfThere (Made x ts params_in (params_rule by ruled) first mid) (params_in v)
        → Writes x ts mid.row last.row (part p 2 ∷ [])
        → new.row ≡ closed (change.Old (vWhat.Node l.TypedSignature)) from to place last.row
        → state_of new ≡ state_of mid
        → IfThere (Made x ts signature_in (signature_rule by ruled) old new) (typed_signature p)
    unfolding build signature_of typed_signature
    typed_signature_made old begun first mid last new place from to ruled p v e eo ep w0 sf h w2 en sn =
        go (params_part_at p 0) refl (params_in (part p 1))
        (subst (λ (v : Value). IfThere (Made x ts params_in (params_rule by ruled) first mid) (params_in v)) (sym e) h)
        (annotation_at p 2) refl
      where
        go : (tp : Option (Option TsPart)) → params_part_at p 0 ≡ tp → (o : Option (List Param))
            → IfThere (Made x ts params_in (params_rule by ruled) first mid) o → (ret : Option (Option TsPart))
            → annotation_at p 2 ≡ ret
            → IfThere (Made x ts signature_in (signature_rule by ruled) old new) (given tp (λ tp. given o (λ ps.
            given ret (λ ret. Some (tp, ps, ret)))))
        go None et o h ret er = record { is = tt }
        go (Some tp) et None h ret er = record { is = tt }
        go (Some tp) et (Some ps) h None er = record { is = tt }
        go (Some tp) et (Some ps) h (Some ret) er = record {
          is = record {
            state = sn ∙ (h.is.state ∙ ap (λ (s : State). (params_rule by ruled ps s).1) sf);
            puts = record {
              value = node_of x ts l.TypedSignature from to (packed (part p 0 ∷ h.is.puts.value ∷ part p 2 ∷ []));
              writes = node_written x ts l.TypedSignature from to place old.row begun.row last.row new.row
                  (part p 0 ∷ h.is.puts.value ∷ part p 2 ∷ []) eo ep
                  (both_written x ts begun.row first.row last.row (part p 0 ∷ []) (h.is.puts.value ∷ part p 2 ∷ []) w0
                  (both_written x ts first.row mid.row last.row (h.is.puts.value ∷ []) (part p 2 ∷ []) h.is.puts.writes
                  w2)) en;
              is = ap (λ (o : Option (Option TsPart)). given o (λ tp. given (params_in h.is.puts.value) (λ ps.
                  given (annotation_at p 2) (λ ret. Some (tp, ps, ret))))) et
                  ∙ (ap (λ (o : Option (List Param)). given o (λ ps. given (annotation_at p 2)
                  (λ ret. Some (tp, ps, ret)))) h.is.puts.is
                  ∙ (ap (λ (o : Option (Option TsPart)). given o
                  (λ ret. Some (tp, (params_rule by ruled ps (state_of first)).0, ret))) er
                  ∙ ap (λ (s : State). Some (tp, (params_rule by ruled ps s).0, ret)) sf));
            };
          };
        }

    -- ---- functions
    made_function : (is_async ruled : Bool) (old begun one two three four new : Draft) (place from to : ℕ) (p : Value)
        (name : Option Ident) (sig : Signature) (before : Function) (v : Value)
        → begun.row ≡ old.row ++ opened → place ≡ length old.row → Writes x ts begun.row one.row (part p 0 ∷ [])
        → Writes x ts one.row two.row (part p 1 ∷ []) → Writes x ts two.row three.row (v ∷ [])
        → signature_in v ≡ Some sig → Bodyless x ts three.row four.row
        → new.row ≡ closed (change.Old (vWhat.Node (typed_label is_async))) from to place four.row
        → own_name_at x ts p 1 ≡ Some name
        → (shown_function by before).bare ruled false (state_of old)
        ≡ (typed_function_of is_async (is_there (group p 0)) (span_of ts from to) name sig None, state_of new)
        → FunctionMade x ts by ruled old new (span_of ts from to) before
    unfolding typed_function build decl_of declarable_of
    made_function is_async ruled old begun one two three four new place from to p name sig before v eo ep w0 w1 w2 is b
        en
        own shown = record {
          value = node_of x ts (typed_label is_async) from to (packed (part p 0 ∷ part p 1 ∷ v ∷ b.value ∷ []));
          writes = node_written x ts (typed_label is_async) from to place old.row begun.row four.row new.row
              (part p 0 ∷ part p 1 ∷ v ∷ b.value ∷ []) eo ep
              (both_written x ts begun.row one.row four.row (part p 0 ∷ []) (part p 1 ∷ v ∷ b.value ∷ []) w0
              (both_written x ts one.row two.row four.row (part p 1 ∷ []) (v ∷ b.value ∷ []) w1
              (both_written x ts two.row three.row four.row (v ∷ []) (b.value ∷ []) w2 b.writes))) en;
          it = it;
          bare = shown;
          declarable = read is_async b.value b.is;
          decl = reads is_async b.value b.is;
        }
      where
        it : Function
        it = typed_function_of is_async (is_there (group p 0)) (span_of ts from to) name sig None

        function_is : (a : Bool) (u : Value) → body_in (as_group u) ≡ Some None
            → typed_function x ts a (span_of ts from to) (packed (part p 0 ∷ part p 1 ∷ v ∷ u ∷ []))
            ≡ Some (typed_function_of a (is_there (group p 0)) (span_of ts from to) name sig None)
        function_is a u e =
            ap (λ (o : Option (Option Ident)). given o (λ name. given (signature_in v) (λ sig.
            given (body_in (as_group u)) (λ body. Some
            (typed_function_of a (is_there (group p 0)) (span_of ts from to) name sig body))))) own
            ∙ (ap (λ (o : Option Signature). given o (λ sig. given (body_in (as_group u)) (λ body. Some
            (typed_function_of a (is_there (group p 0)) (span_of ts from to) name sig body)))) is
            ∙ ap (λ (o : Option (Option Stmt)). given o (λ body. Some
            (typed_function_of a (is_there (group p 0)) (span_of ts from to) name sig body))) e)

        read : (a : Bool) (u : Value) → body_in (as_group u) ≡ Some None
            → declarable_in (node_of x ts (typed_label a) from to (packed (part p 0 ∷ part p 1 ∷ v ∷ u ∷ [])))
            ≡ Some (λ declare r. vDecl.Fn declare
            (typed_function_of a (is_there (group p 0)) (span_of ts from to) name sig None) r)
        read true u e = ap (option_map (λ function declare r. vDecl.Fn declare function r)) (function_is true u e)
        read false u e = ap (option_map (λ function declare r. vDecl.Fn declare function r)) (function_is false u e)

        reads : (a : Bool) (u : Value) → body_in (as_group u) ≡ Some None
            → decl_in (node_of x ts (typed_label a) from to (packed (part p 0 ∷ part p 1 ∷ v ∷ u ∷ [])))
            ≡ Some (vDecl.Fn false (typed_function_of a (is_there (group p 0)) (span_of ts from to) name sig None)
            (span_of ts from to))
        reads true u e =
            ap (λ (o : Option Function). option_map (λ (d : Declarable). d false (span_of ts from to))
            (option_map (λ function declare r. vDecl.Fn declare function r) o)) (function_is true u e)
        reads false u e =
            ap (λ (o : Option Function). option_map (λ (d : Declarable). d false (span_of ts from to))
            (option_map (λ function declare r. vDecl.Fn declare function r) o)) (function_is false u e)

    pub plain_function : (is_async ruled : Bool) (old begun one two three four new : Draft) (place from to : ℕ)
        (p w : Value)
        → part p 2 ≡ w → begun.row ≡ old.row ++ opened → place ≡ length old.row
        → Writes x ts begun.row one.row (part p 0 ∷ []) → Writes x ts one.row two.row (part p 1 ∷ [])
        → state_of two ≡ state_of old → IfThere (Made x ts signature_in (plain_rule by ruled) two three) (params_in w)
        → Bodyless x ts three.row four.row
        → new.row ≡ closed (change.Old (vWhat.Node (typed_label is_async))) from to place four.row
        → state_of new ≡ state_of three
        → IfThere (FunctionMade x ts by ruled old new (span_of ts from to))
        (functions.function x ts is_async (span_of ts from to) p)
    unfolding functions.function
    plain_function is_async ruled old begun one two three four new place from to p w e eo ep w0 w1 st h b en sn =
        go (own_name_at x ts p 1) refl (params_in (part p 2))
        (subst (λ (v : Value). IfThere (Made x ts signature_in (plain_rule by ruled) two three) (params_in v)) (sym e)
        h)
        (stmt_at p 3)
      where
        made_by : (name : Option Ident) → own_name_at x ts p 1 ≡ Some name → (ps : List Param)
            → Made x ts signature_in (plain_rule by ruled) two three ps → (body : Stmt)
            → FunctionMade x ts by ruled old new (span_of ts from to)
            (functions.function_of is_async (is_there (group p 0)) (span_of ts from to) name ps body)
        made_by name own ps m body =
            made_function is_async ruled old begun one two three four new place from to p name
            (plain_rule by ruled ps (state_of two)).0 _ m.puts.value eo ep w0 w1 m.puts.writes m.puts.is b en own
            (bare_is is_async (is_there (group p 0)) (span_of ts from to) name (None, ps, None) (Some body) ruled
            (state_of old)
            ∙ (ap (λ (s : State). after
            (λ ps. typed_function_of is_async (is_there (group p 0)) (span_of ts from to) name
            (None, ps, None) None) (params_rule by ruled ps s)) (sym st)
            ∙ ap (λ (s : State). (
              typed_function_of is_async (is_there (group p 0)) (span_of ts from to) name
                  (plain_rule by ruled ps (state_of two)).0 None,
              s,
            )) (sym (sn ∙ m.state))))

        go : (n : Option (Option Ident)) → own_name_at x ts p 1 ≡ n → (o : Option (List Param))
            → IfThere (Made x ts signature_in (plain_rule by ruled) two three) o → (body : Option Stmt)
            → IfThere (FunctionMade x ts by ruled old new (span_of ts from to)) (given n (λ name. given o (λ params.
            given body (λ body. Some
            (functions.function_of is_async (is_there (group p 0)) (span_of ts from to) name params body)))))
        go None own o h body = record { is = tt }
        go (Some name) own None h body = record { is = tt }
        go (Some name) own (Some ps) h None = record { is = tt }
        go (Some name) own (Some ps) h (Some body) = record { is = made_by name own ps h.is body }

    pub typed_function_made : (is_async ruled : Bool) (old begun one two three four new : Draft) (place from to : ℕ)
        (p w : Value) → part p 2 ≡ w → begun.row ≡ old.row ++ opened → place ≡ length old.row
        → Writes x ts begun.row one.row (part p 0 ∷ []) → Writes x ts one.row two.row (part p 1 ∷ [])
        → state_of two ≡ state_of old
        → IfThere (Made x ts signature_in (signature_rule by ruled) two three) (signature_in w)
        → Bodyless x ts three.row four.row
        → new.row ≡ closed (change.Old (vWhat.Node (typed_label is_async))) from to place four.row
        → state_of new ≡ state_of three
        → IfThere (FunctionMade x ts by ruled old new (span_of ts from to))
        (typed_function x ts is_async (span_of ts from to) p)
    unfolding typed_function
    typed_function_made is_async ruled old begun one two three four new place from to p w e eo ep w0 w1 st h b en sn =
        go (own_name_at x ts p 1) refl (signature_in (part p 2))
        (subst (λ (v : Value). IfThere (Made x ts signature_in (signature_rule by ruled) two three) (signature_in v))
        (sym e)
        h)
        (body_in (group p 3))
      where
        made_by : (name : Option Ident) → own_name_at x ts p 1 ≡ Some name → (sig : Signature)
            → Made x ts signature_in (signature_rule by ruled) two three sig → (body : Option Stmt)
            → FunctionMade x ts by ruled old new (span_of ts from to)
            (typed_function_of is_async (is_there (group p 0)) (span_of ts from to) name sig body)
        made_by name own sig m body =
            made_function is_async ruled old begun one two three four new place from to p name
            (signature_rule by ruled sig (state_of two)).0 _ m.puts.value eo ep w0 w1 m.puts.writes m.puts.is b en own
            (bare_is is_async (is_there (group p 0)) (span_of ts from to) name sig body ruled (state_of old)
            ∙ (ap (λ (s : State). after
            (λ ps. typed_function_of is_async (is_there (group p 0)) (span_of ts from to) name
            (sig.0, ps, sig.2) None) (params_rule by ruled sig.1 s)) (sym st)
            ∙ ap (λ (s : State). (
              typed_function_of is_async (is_there (group p 0)) (span_of ts from to) name
                  (signature_rule by ruled sig (state_of two)).0 None,
              s,
            )) (sym (sn ∙ m.state))))

        go : (n : Option (Option Ident)) → own_name_at x ts p 1 ≡ n → (o : Option Signature)
            → IfThere (Made x ts signature_in (signature_rule by ruled) two three) o → (body : Option (Option Stmt))
            → IfThere (FunctionMade x ts by ruled old new (span_of ts from to)) (given n (λ name. given o (λ sig.
            given body (λ body. Some
            (typed_function_of is_async (is_there (group p 0)) (span_of ts from to) name sig body)))))
        go None own o h body = record { is = tt }
        go (Some name) own None h body = record { is = tt }
        go (Some name) own (Some sig) h None = record { is = tt }
        go (Some name) own (Some sig) h (Some body) = record { is = made_by name own sig h.is body }

    -- a signature at its place
    pub signature_there : (old new : Draft) (ruled : Bool) (i : Item) (label : NodeKind) → i.what ≡ vWhat.Node label
        → label ≡ l.TypedSignature
        → IfThere (Made x ts signature_in (signature_rule by ruled) old new)
        (typed_signature (held x ts i.parts.entries.now))
        → IfThere (Made x ts signature_in (signature_rule by ruled) old new) (signature_in (valued x ts i))
    unfolding build signature_of
    signature_there old new ruled i label is e h =
        subst (λ (w : What). IfThere (Made x ts signature_in (signature_rule by ruled) old new) (signature_in
        (made x ts w i.from i.to (held x ts i.parts.entries.now) (parts_of x ts i.parts.entries.now))))
        (sym (is ∙ ap (λ (label : NodeKind). vWhat.Node label) e)) h
