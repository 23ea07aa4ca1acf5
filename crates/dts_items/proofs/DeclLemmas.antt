-- What declarations are, by what is written of them.
use Rattle.std.specs.Prelude.{ℕ, Bool, true, false, List, [], ◌∷◌, ◌++◌, length, Option, Some, None, option_map}
use Rattle.std.proofs.Common.{◌≡◌, refl, sym, ap, subst, ◌∙◌}
use Rattle.base.specs.declared.range.Range.{Range}
use Rattle.es_token.specs.declared.token.Token.{Token}
use Rattle.es_grammar.specs.declared.rows.NodeKind.{NodeKind}
use Rattle.es_grammar.specs.declared.rows.NodeKind.TheVariants as l
use Rattle.es_ast.specs.declared.ts.leaf.Ident.{Ident}
use Rattle.es_ast.specs.declared.ts.ts.TsPart.{TsPart}
use Rattle.es_ast.specs.declared.ts.ts.TsPart.TheVariants as vPart
use Rattle.es_ast.specs.declared.ts.ts.TsType.{TsType}
use Rattle.es_ast.specs.declared.ast.Decl.{Decl, roll-Decl}
use Rattle.es_ast.specs.declared.ast.Decl.TheVariants as vDecl
use Rattle.es_ast.specs.declared.ast.Function.{Function}
use Rattle.es_ast.specs.declared.ast.ModuleItem.TheVariants as vItem
use Rattle.es_ast.specs.declared.ast.Stmt.TheVariants as vStmt
use Rattle.es_ast.specs.declared.ast.ClassMember.TheOpen.{Decl-F}
use Rattle.es_site.specs.Parts.{Whole}
use Rattle.es_lowering.specs.Value.{Value, optional, turns, type_params_at, type_member_at}
use Rattle.es_lowering.specs.Texts.{ident_of, span_of}
use Rattle.es_lowering.specs.Lowering.{packed, build}
use Rattle.es_lowering.specs.Lowering as lowering
use Rattle.es_lowering.specs.Statements as stmts
use Rattle.es_lowering.specs.Statements.{Variables}
use Rattle.es_lowering.specs.TypedParts.{heritage_in}
use Rattle.es_lowering.specs.TypedStatements as typed_stmts
use Rattle.es_lowering.specs.TypedStatements.{Declarable}
use Rattle.es_syntax.specs.declared.entry.What.{What}
use Rattle.es_syntax.specs.declared.entry.What.TheVariants as vWhat
use Rattle.es_syntax.specs.declared.cursor.Item.{Item}
use Rattle.es_syntax.specs.Held.{held, made, node_of, parts_of, valued}
use Rattle.es_syntax.specs.Roles.{declarable_in, decl_in, variables_in}
use Rattle.es_changed.specs.declared.entry.Change.TheVariants as change
use Rattle.es_changed.specs.declared.entry.Form.{Form}
use Rattle.es_changed.specs.Formed.{formed, with_declare}
use Rattle.es_changed.specs.Shape.{closed, opened, Writes}
use Rattle.es_changed.proofs.Equations.{with_fn, with_var}
use Rattle.es_changed.proofs.Written.{both_written, form_written, node_written}
use Rattle.es_view_statements.specs.decl.Decl as decl_view
use Rattle.es_view_statements.specs.decl.Declarable.{alias_of, interface_of}
use Rattle.dts_rules.specs.Rules.{Env, ShownDecl, State, after}
use Rattle.dts_rules.specs.Programs.{in_decl, shown_decl, shown_function}
use Rattle.dts_rules.proofs.Shown.{at_decl, beside_decl}
use Rattle.dts_draft.specs.declared.draft.Draft.{Draft}
use Rattle.dts_draft.specs.Drafts.{state_of}
use Rattle.dts_draft.specs.Written.{IfThere}
use Rattle.dts_draft.proofs.There.{given_any, lifted, one}
use Rattle.dts_enums.specs.Enums.{Declares, Something}
use Rattle.dts_parts.specs.Functions.{FunctionMade}
use Rattle.dts_variables.specs.Variables.{VariablesMade}
use Rattle.dts_members.specs.Classes.{DeclWritten}
use Rattle.dts_items.specs.Decls.{DeclPuts, DefaultPuts}
use Rattle.dts_items.specs.Changed.{as_declared, as_variables, declare_form, BlockChanged, BlockDefaulted, DeclareChanged, DeclChanged, IfChanged}

never : {A : Type 0} → true ≡ false → A
never e = let bad : ⊥ = cc in absurd bad

-- where a declaration doesn't stay
abbrev pub Unless : Env → (Decl → Type 0) → Decl → Type 0
Unless by P d = (shown_decl by d).stays ≡ false → P d

module _ (by : Env) where
  -- ---- what the rules make of functions and types
  at : (it : Decl) (w : Whole Decl-F) → roll-Decl w ≡ it → shown_decl by it ≡ in_decl by (beside_decl by w)
  at it w rolls = ap (shown_decl by) (sym rolls) ∙ at_decl by w

  fn_declared : (declare : Bool) (f : Function) (r : Range) (top : Bool) (s : State)
      → (shown_decl by (vDecl.Fn declare f r)).declared top s
      ≡ after (λ f. Some (vDecl.Fn top f r)) ((shown_function by f).bare true false s)
  fn_declared declare f r top s =
      ap (λ (k : ShownDecl). k.declared top s) (at _ (Decl-F.Decl::Fn declare f r) (vDecl.rolls-Fn declare f r))

  fn_defaulted : (declare : Bool) (f : Function) (r : Range) (s : State)
      → (shown_decl by (vDecl.Fn declare f r)).defaulted s
      ≡ after (λ f. vDecl.Fn declare f r) ((shown_function by f).bare false false s)
  fn_defaulted declare f r s =
      ap (λ (k : ShownDecl). k.defaulted s) (at _ (Decl-F.Decl::Fn declare f r) (vDecl.rolls-Fn declare f r))

  interface_stays : (declare : Bool) (id : Ident) (tps extends body : Option TsPart) (r : Range)
      → (shown_decl by (vDecl.TsInterface declare id tps extends body r)).stays ≡ true
  interface_stays declare id tps extends body r =
      ap (λ (k : ShownDecl). k.stays)
      (at _ (Decl-F.TsInterface declare id tps extends body r) (vDecl.rolls-TsInterface declare id tps extends body r))

  interface_defaulted : (declare : Bool) (id : Ident) (tps extends body : Option TsPart) (r : Range) (s : State)
      → (shown_decl by (vDecl.TsInterface declare id tps extends body r)).defaulted s
      ≡ (vDecl.TsInterface declare id tps extends body r, s)
  interface_defaulted declare id tps extends body r s =
      ap (λ (k : ShownDecl). k.defaulted s)
      (at _ (Decl-F.TsInterface declare id tps extends body r) (vDecl.rolls-TsInterface declare id tps extends body r))

  alias_stays : (declare : Bool) (id : Ident) (tps ty : Option TsPart) (r : Range)
      → (shown_decl by (vDecl.TsTypeAlias declare id tps ty r)).stays ≡ true
  alias_stays declare id tps ty r =
      ap (λ (k : ShownDecl). k.stays)
      (at _ (Decl-F.TsTypeAlias declare id tps ty r) (vDecl.rolls-TsTypeAlias declare id tps ty r))

  alias_defaulted : (declare : Bool) (id : Ident) (tps ty : Option TsPart) (r : Range) (s : State)
      → (shown_decl by (vDecl.TsTypeAlias declare id tps ty r)).defaulted s
      ≡ (vDecl.TsTypeAlias declare id tps ty r, s)
  alias_defaulted declare id tps ty r s =
      ap (λ (k : ShownDecl). k.defaulted s)
      (at _ (Decl-F.TsTypeAlias declare id tps ty r) (vDecl.rolls-TsTypeAlias declare id tps ty r))

  module _ (x : List ℕ) (ts : List Token) where
    -- ---- the forms of a view
    pub variables_form : (o : Option Decl) (r : Range) (v : Option Variables) → o ≡ decl_view.var_decl r v
        → o ≡ as_variables false r v
    unfolding decl_view.var_decl
    variables_form o r v e = e

    pub declared_form : (o : Option Decl) (r : Range) (d : Option Declarable) → o ≡ decl_view.declared r d
        → o ≡ as_declared true r d
    unfolding decl_view.declared
    declared_form o r d e = e

    pub declared_variables_form : (o : Option Decl) (r : Range) (v : Option Variables)
        → o ≡ decl_view.declared_variables r v → o ≡ as_variables true r v
    unfolding decl_view.declared_variables
    declared_variables_form o r v e = e

    -- ---- functions
    function_changed : (old new : Draft) (span : Range) (f : Function) → FunctionMade x ts by true old new span f
        → DeclChanged x ts by old new (vDecl.Fn false f span)
    function_changed old new span f m = record {
      value = m.value;
      writes = m.writes;
      it = vDecl.Fn false m.it span;
      is = m.decl;
      declared = λ top.
          fn_declared false f span top (state_of old)
          ∙ (ap (after (λ f. Some (vDecl.Fn top f span))) m.bare
          ∙ ap (λ (d : Decl). (Some d, state_of new)) (sym (with_fn top false m.it span)));
    }

    pub plain_changed : (old new : Draft) (span : Range) (o : Option Function)
        → IfThere (FunctionMade x ts by true old new span) o
        → IfThere (Unless by (DeclChanged x ts by old new)) (option_map (λ f. vDecl.Fn false f span) o)
    plain_changed old new span None h = record { is = tt }
    plain_changed old new span (Some f) h = record { is = λ e. function_changed old new span f h.is }

    pub plain_defaulted : (old new : Draft) (span : Range) (o : Option Function)
        → IfThere (FunctionMade x ts by false old new span) o
        → IfThere (DefaultPuts x ts by old new) (option_map (λ f. vDecl.Fn false f span) o)
    plain_defaulted old new span None h = record { is = tt }
    plain_defaulted old new span (Some f) h = record {
      is = record {
        value = h.is.value;
        writes = h.is.writes;
        it = vDecl.Fn false h.is.it span;
        defaulted = fn_defaulted false f span (state_of old) ∙ ap (after (λ f. vDecl.Fn false f span)) h.is.bare;
        decl = h.is.decl;
      };
    }

    pub typed_changed : (old new : Draft) (span : Range) (o : Option Function)
        → IfThere (FunctionMade x ts by true old new span) o
        → IfThere (IfChanged x ts by old new span) (option_map (λ f declare r. vDecl.Fn declare f r) o)
    typed_changed old new span None h = record { is = tt }
    typed_changed old new span (Some f) h = record {
      is = λ declare r e. record {
        value = h.is.value;
        writes = h.is.writes;
        it = λ declare r. vDecl.Fn declare h.is.it r;
        is = h.is.declarable;
        decl = h.is.decl;
        declared = λ declare top r.
            fn_declared declare f r top (state_of old) ∙ ap (after (λ f. Some (vDecl.Fn top f r))) h.is.bare;
        marked = λ declare again r. with_fn again declare h.is.it r;
      };
    }

    pub typed_defaulted : (old new : Draft) (span : Range) (o : Option Function)
        → IfThere (FunctionMade x ts by false old new span) o
        → IfThere (BlockDefaulted x ts by old new span) (option_map (λ f declare r. vDecl.Fn declare f r) o)
    typed_defaulted old new span None h = record { is = tt }
    typed_defaulted old new span (Some f) h = record {
      is = record {
        value = h.is.value;
        writes = h.is.writes;
        it = λ declare r. vDecl.Fn declare h.is.it r;
        decl = h.is.decl;
        defaulted = λ r.
            fn_defaulted false f r (state_of old) ∙ ap (after (λ f. vDecl.Fn false f r)) h.is.bare;
      };
    }

    -- ---- classes, and what the rules have on the top, elsewhere and after `export default`
    pub class_changed : (old new : Draft) (o : Option Decl) → IfThere (DeclWritten x ts by old new) o
        → IfThere (Unless by (DeclChanged x ts by old new)) o
    class_changed old new o h =
        lifted (λ d w e. record {
          value = w.value;
          writes = w.writes;
          it = w.it;
          is = w.is;
          declared = w.declared;
        }) h

    pub class_defaulted : (old new : Draft) (o : Option Decl) → IfThere (DeclWritten x ts by old new) o
        → IfThere (DefaultPuts x ts by old new) o
    class_defaulted old new o h =
        lifted (λ d w. record {
          value = w.value;
          writes = w.writes;
          it = w.it;
          defaulted = w.defaulted;
          decl = w.is;
        }) h

    pub block_changed : (old new : Draft) (span : Range) (o : Option Declarable)
        → IfThere (Declares x ts by old new span) o → IfThere (IfChanged x ts by old new span) o
    block_changed old new span o h =
        lifted (λ b d declare r e. record {
          value = d.value;
          writes = d.writes;
          it = d.it;
          is = d.is;
          decl = d.decl;
          declared = d.declared;
          marked = d.marked;
        }) h

    pub block_defaulted : (old new : Draft) (span : Range) (o : Option Declarable)
        → IfThere (Declares x ts by old new span) o → IfThere (BlockDefaulted x ts by old new span) o
    block_defaulted old new span o h =
        lifted (λ b d. record {
          value = d.value;
          writes = d.writes;
          it = d.it;
          decl = d.decl;
          defaulted = λ r. d.defaulted false r;
        }) h

    -- ---- types
    pub interface_unchanged : (old new : Draft) (span : Range) (name : Option Token) (tps extends members : Value)
        → IfThere (IfChanged x ts by old new span) (interface_of x ts name tps extends members)
    unfolding interface_of
    interface_unchanged old new span name tps extends members =
        let P : Declarable → Type 0 = IfChanged x ts by old new span in
        given_any P (option_map (ident_of x) name) _ (λ id.
        given_any P (option_map (λ ps. option_map vPart.TypeParams ps) (optional type_params_at tps)) _ (λ tps.
        given_any P (heritage_in ts extends) _ (λ extends.
        given_any P (option_map vPart.Members (turns (λ turn. type_member_at turn 0) members)) _ (λ body.
        one P (λ declare r e.
        never (sym (interface_stays declare id tps extends (Some body) r) ∙ e))))))

    pub alias_unchanged : (old new : Draft) (span : Range) (name : Option Token) (tps : Value) (ty : Option TsType)
        → IfThere (IfChanged x ts by old new span) (alias_of x name tps ty)
    unfolding alias_of
    alias_unchanged old new span name tps ty =
        let P : Declarable → Type 0 = IfChanged x ts by old new span in
        given_any P (option_map (ident_of x) name) _ (λ id.
        given_any P (option_map (λ ps. option_map vPart.TypeParams ps) (optional type_params_at tps)) _ (λ tps.
        given_any P (option_map vPart.TypeAnn ty) _ (λ ty.
        one P (λ declare r e. never (sym (alias_stays declare id tps (Some ty) r) ∙ e)))))

    -- a type that stays after `export default`
    abbrev Stays : Declarable → Type 0
    Stays b = (r : Range) (s : State) → (shown_decl by (b false r)).defaulted s ≡ (b false r, s)

    pub interface_kept : (name : Option Token) (tps extends members : Value)
        → IfThere Stays (interface_of x ts name tps extends members)
    unfolding interface_of
    interface_kept name tps extends members =
        given_any Stays (option_map (ident_of x) name) _ (λ id.
        given_any Stays (option_map (λ ps. option_map vPart.TypeParams ps) (optional type_params_at tps)) _ (λ tps.
        given_any Stays (heritage_in ts extends) _ (λ extends.
        given_any Stays (option_map vPart.Members (turns (λ turn. type_member_at turn 0) members)) _ (λ body.
        one Stays (λ r s. interface_defaulted false id tps extends (Some body) r s)))))

    pub alias_kept : (name : Option Token) (tps : Value) (ty : Option TsType)
        → IfThere Stays (alias_of x name tps ty)
    unfolding alias_of
    alias_kept name tps ty =
        given_any Stays (option_map (ident_of x) name) _ (λ id.
        given_any Stays (option_map (λ ps. option_map vPart.TypeParams ps) (optional type_params_at tps)) _ (λ tps.
        given_any Stays (option_map vPart.TypeAnn ty) _ (λ ty.
        one Stays (λ r s. alias_defaulted false id tps (Some ty) r s))))

    pub kept_default : (old new : Draft) (span : Range) (v : Value) (o : Option Declarable) → declarable_in v ≡ o
        → decl_in v ≡ as_declared false span (declarable_in v) → IfThere Stays o → Writes x ts old.row new.row (v ∷ [])
        → state_of new ≡ state_of old → IfThere (BlockDefaulted x ts by old new span) (declarable_in v)
    kept_default old new span v o is link h w sn =
        subst (λ o. IfThere (BlockDefaulted x ts by old new span) o) (sym is)
        (go o h (link ∙ ap (as_declared false span) is))
      where
        go : (o : Option Declarable) → IfThere Stays o → decl_in v ≡ as_declared false span o
            → IfThere (BlockDefaulted x ts by old new span) o
        go None h e = record { is = tt }
        go (Some b) h e = record {
          is = record {
            value = v;
            writes = w;
            it = b;
            decl = e;
            defaulted = λ r. h.is r (state_of old) ∙ ap (λ (s : State). (b false r, s)) (sym sn);
          };
        }

    -- ---- without `declare`
    pub declarable_changed : (old new : Draft) (span : Range) (o : Option Decl) (b : Option Declarable)
        → o ≡ as_declared false span b → IfThere (IfChanged x ts by old new span) b
        → IfThere (Unless by (DeclChanged x ts by old new)) o
    declarable_changed old new span o b e h =
        subst (λ o. IfThere (Unless by (DeclChanged x ts by old new)) o) (sym e) (go b h)
      where
        go : (b : Option Declarable) → IfThere (IfChanged x ts by old new span) b
            → IfThere (Unless by (DeclChanged x ts by old new)) (as_declared false span b)
        go None h = record { is = tt }
        go (Some b) h = record {
          is = λ e.
              let c : BlockChanged x ts by old new span b = h.is false span e in
              record {
                value = c.value;
                writes = c.writes;
                it = c.it false span;
                is = c.decl;
                declared = λ top.
                    c.declared false top span
                    ∙ ap (λ (d : Decl). (Some d, state_of new)) (sym (c.marked false top span));
              };
        }

    pub declarable_defaulted : (old new : Draft) (span : Range) (o : Option Decl) (b : Option Declarable)
        → o ≡ as_declared false span b → IfThere (BlockDefaulted x ts by old new span) b
        → IfThere (DefaultPuts x ts by old new) o
    declarable_defaulted old new span o b e h =
        subst (λ o. IfThere (DefaultPuts x ts by old new) o) (sym e) (go b h)
      where
        go : (b : Option Declarable) → IfThere (BlockDefaulted x ts by old new span) b
            → IfThere (DefaultPuts x ts by old new) (as_declared false span b)
        go None h = record { is = tt }
        go (Some b) h = record {
          is = record {
            value = h.is.value;
            writes = h.is.writes;
            it = h.is.it false span;
            defaulted = h.is.defaulted span;
            decl = h.is.decl;
          };
        }

    -- ---- variables
    variables_declared : (declare : Bool) (old new : Draft) (span r : Range) (v : Variables)
        (m : VariablesMade x ts by old new span v) (top : Bool)
        → (shown_decl by (vDecl.Var declare v.0 v.1 r)).declared top (state_of old)
        ≡ (Some (with_declare top (vDecl.Var declare m.it.0 m.it.1 r)), state_of new)
    variables_declared declare old new span r v m top =
        m.declared declare top r
        ∙ ap (λ (d : Decl). (Some d, state_of new)) (sym (with_var top declare m.it.0 m.it.1 r))

    pub bare_changed : (old new : Draft) (span : Range) (o : Option Variables)
        → IfThere (VariablesMade x ts by old new span) o
        → IfThere (Unless by (DeclChanged x ts by old new)) (as_variables false span o)
    bare_changed old new span None h = record { is = tt }
    bare_changed old new span (Some v) h = record {
      is = λ e. record {
        value = h.is.value;
        writes = h.is.writes;
        it = vDecl.Var false h.is.it.0 h.is.it.1 span;
        is = h.is.decl;
        declared = variables_declared false old new span span v h.is;
      };
    }

    bare_is : (i : Item) → i.what ≡ vWhat.Node l.Variables
        → decl_in (valued x ts i) ≡ as_variables false (span_of ts i.from i.to) (variables_in (valued x ts i))
    unfolding build lowering.decl_of lowering.variables_of
    bare_is i e =
        subst (λ (w : What). decl_in
        (made x ts w i.from i.to (held x ts i.parts.entries.now) (parts_of x ts i.parts.entries.now))
        ≡ as_variables false (span_of ts i.from i.to) (variables_in
        (made x ts w i.from i.to (held x ts i.parts.entries.now) (parts_of x ts i.parts.entries.now)))) (sym e) refl

    pub bare_there : (old new : Draft) (i : Item) (label : NodeKind) → i.what ≡ vWhat.Node label → label ≡ l.Variables
        → IfThere (VariablesMade x ts by old new (span_of ts i.from i.to)) (variables_in (valued x ts i))
        → IfThere (Unless by (DeclChanged x ts by old new)) (decl_in (valued x ts i))
    bare_there old new i label e f h =
        subst (λ o. IfThere (Unless by (DeclChanged x ts by old new)) o)
        (sym (bare_is i (e ∙ ap (λ (label : NodeKind). vWhat.Node label) f)))
        (bare_changed old new (span_of ts i.from i.to) (variables_in (valued x ts i)) h)

    pub ended_changed : (old begun mid more_ new : Draft) (place from to : ℕ) (span : Range) (o : Option Variables)
        → begun.row ≡ old.row ++ opened → place ≡ length old.row → state_of begun ≡ state_of old
        → IfThere (VariablesMade x ts by begun mid span) o → Something x ts mid.row more_.row
        → new.row ≡ closed (change.Old (vWhat.Node l.VariableDeclaration)) from to place more_.row
        → state_of new ≡ state_of mid
        → IfThere (Unless by (DeclChanged x ts by old new)) (as_variables false (span_of ts from to) o)
    unfolding build lowering.decl_of stmts.variable_declaration
    ended_changed old begun mid more_ new place from to span None eo ep sb h s en sn = record { is = tt }
    ended_changed old begun mid more_ new place from to span (Some v) eo ep sb h s en sn = record {
      is = λ e. record {
        value = node_of x ts l.VariableDeclaration from to (packed (h.is.value ∷ s.values));
        writes = node_written x ts l.VariableDeclaration from to place old.row begun.row more_.row new.row
            (h.is.value ∷ s.values) eo ep
            (both_written x ts begun.row mid.row more_.row (h.is.value ∷ []) s.values h.is.writes s.writes) en;
        it = vDecl.Var false h.is.it.0 h.is.it.1 (span_of ts from to);
        is = ap (as_variables false (span_of ts from to)) h.is.variables;
        declared = λ top.
            ap (λ (s : State). (shown_decl by (vDecl.Var false v.0 v.1 (span_of ts from to))).declared top s) (sym sb)
            ∙ (variables_declared false begun mid span (span_of ts from to) v h.is top
            ∙ ap (λ (s : State). (
              Some (with_declare top (vDecl.Var false h.is.it.0 h.is.it.1 (span_of ts from to))),
              s,
            )) (sym sn));
      };
    }

    -- ---- after `declare`
    pub variables_node : (old begun dropped mid more_ new : Draft) (place from to : ℕ) (span : Range)
        (o : Option Variables)
        → begun.row ≡ old.row ++ opened → place ≡ length old.row → Writes x ts begun.row dropped.row []
        → state_of dropped ≡ state_of old → IfThere (VariablesMade x ts by dropped mid span) o
        → Something x ts mid.row more_.row
        → new.row ≡ closed (change.Old (vWhat.Node l.DeclaredVariables)) from to place more_.row
        → state_of new ≡ state_of mid
        → IfThere (Unless by (DeclareChanged x ts by old new)) (as_variables true (span_of ts from to) o)
    unfolding build lowering.decl_of lowering.stmt_of lowering.module_decl_of typed_stmts.declared_variables
    variables_node old begun dropped mid more_ new place from to span None eo ep wd sd h s en sn = record { is = tt }
    variables_node old begun dropped mid more_ new place from to span (Some v) eo ep wd sd h s en sn = record {
      is = λ e.
          let is : as_variables true (span_of ts from to) (variables_in h.is.value)
          ≡ Some (vDecl.Var true h.is.it.0 h.is.it.1 (span_of ts from to)) =
          ap (as_variables true (span_of ts from to)) h.is.variables in
          record {
            value = node_of x ts l.DeclaredVariables from to (packed (h.is.value ∷ s.values));
            writes = node_written x ts l.DeclaredVariables from to place old.row begun.row more_.row new.row
                (h.is.value ∷ s.values) eo ep
                (both_written x ts begun.row dropped.row more_.row [] (h.is.value ∷ s.values) wd
                (both_written x ts dropped.row mid.row more_.row (h.is.value ∷ []) s.values h.is.writes s.writes)) en;
            it = vDecl.Var true h.is.it.0 h.is.it.1 (span_of ts from to);
            is = is;
            stmt = ap (option_map vStmt.Decl) is;
            item = ap (λ o. option_map vItem.Stmt (option_map vStmt.Decl o)) is;
            declared = λ top.
                ap (λ (s : State). (shown_decl by (vDecl.Var true v.0 v.1 (span_of ts from to))).declared top s)
                (sym sd)
                ∙ (variables_declared true dropped mid span (span_of ts from to) v h.is top
                ∙ ap (λ (s : State). (
                  Some (with_declare top (vDecl.Var true h.is.it.0 h.is.it.1 (span_of ts from to))),
                  s,
                )) (sym sn));
            marked = with_var true true h.is.it.0 h.is.it.1 (span_of ts from to);
          };
    }

    pub declared_node : (old begun dropped mid new : Draft) (place from to : ℕ) (span : Range) (v : Value)
        → begun.row ≡ old.row ++ opened → place ≡ length old.row → Writes x ts begun.row dropped.row []
        → state_of dropped ≡ state_of old → IfThere (IfChanged x ts by dropped mid span) (declarable_in v)
        → new.row ≡ closed (change.Old (vWhat.Node l.Declared)) from to place mid.row → state_of new ≡ state_of mid
        → IfThere (Unless by (DeclareChanged x ts by old new)) (as_declared true (span_of ts from to) (declarable_in v))
    unfolding build lowering.decl_of lowering.stmt_of lowering.module_decl_of typed_stmts.declared
    declared_node old begun dropped mid new place from to span v eo ep wd sd h en sn = go (declarable_in v) h
      where
        r : Range
        r = span_of ts from to

        changed : (b : Declarable) → BlockChanged x ts by dropped mid span b
            → DeclareChanged x ts by old new (b true r)
        changed b c =
            let is : as_declared true r (declarable_in c.value) ≡ Some (c.it true r) = ap (as_declared true r) c.is in
            record {
              value = node_of x ts l.Declared from to (packed (c.value ∷ []));
              writes = node_written x ts l.Declared from to place old.row begun.row mid.row new.row (c.value ∷ []) eo
                  ep (both_written x ts begun.row dropped.row mid.row [] (c.value ∷ []) wd c.writes) en;
              it = c.it true r;
              is = is;
              stmt = ap (option_map vStmt.Decl) is;
              item = ap (λ o. option_map vItem.Stmt (option_map vStmt.Decl o)) is;
              declared = λ top.
                  ap (λ (s : State). (shown_decl by (b true r)).declared top s) (sym sd)
                  ∙ (c.declared true top r
                  ∙ (ap (λ (d : Decl). (Some d, state_of mid)) (sym (c.marked true top r))
                  ∙ ap (λ (s : State). (Some (with_declare top (c.it true r)), s)) (sym sn)));
              marked = c.marked true true r;
            }

        go : (o : Option Declarable) → IfThere (IfChanged x ts by dropped mid span) o
            → IfThere (Unless by (DeclareChanged x ts by old new)) (as_declared true r o)
        go None h = record { is = tt }
        go (Some b) h = record { is = λ e. changed b (h.is true r e) }

    -- ---- `declare` is set or cleared
    in_form : (top : Bool) (old begun mid new : Draft) (place from to : ℕ) (d : Decl)
        → begun.row ≡ old.row ++ opened → place ≡ length old.row → state_of begun ≡ state_of old
        → DeclChanged x ts by begun mid d
        → new.row ≡ closed (change.Form (declare_form top)) from to place mid.row → state_of new ≡ state_of mid
        → DeclPuts x ts by top old new d
    in_form true old begun mid new place from to d eo ep sb c en sn = record {
      value = formed x ts (declare_form true) from to (packed (c.value ∷ []));
      writes = form_written x ts (declare_form true) from to place old.row begun.row mid.row new.row (c.value ∷ []) eo
          ep
          c.writes en;
      it = with_declare true c.it;
      declared = ap (λ (s : State). (shown_decl by d).declared true s) (sym sb)
          ∙ (c.declared true ∙ ap (λ (s : State). (Some (with_declare true c.it), s)) (sym sn));
      decl = ap (option_map (with_declare true)) c.is;
      stmt = ap (λ o. option_map vStmt.Decl (option_map (with_declare true) o)) c.is;
      item = ap (λ o. option_map vItem.Stmt (option_map vStmt.Decl (option_map (with_declare true) o))) c.is;
    }
    in_form false old begun mid new place from to d eo ep sb c en sn = record {
      value = formed x ts (declare_form false) from to (packed (c.value ∷ []));
      writes = form_written x ts (declare_form false) from to place old.row begun.row mid.row new.row (c.value ∷ []) eo
          ep c.writes en;
      it = with_declare false c.it;
      declared = ap (λ (s : State). (shown_decl by d).declared false s) (sym sb)
          ∙ (c.declared false ∙ ap (λ (s : State). (Some (with_declare false c.it), s)) (sym sn));
      decl = ap (option_map (with_declare false)) c.is;
      stmt = ap (λ o. option_map vStmt.Decl (option_map (with_declare false) o)) c.is;
      item = ap (λ o. option_map vItem.Stmt (option_map vStmt.Decl (option_map (with_declare false) o))) c.is;
    }

    pub form_made : (top : Bool) (old begun mid new : Draft) (place from to : ℕ) (f : Form) (o : Option Decl)
        → f ≡ declare_form top → begun.row ≡ old.row ++ opened → place ≡ length old.row
        → state_of begun ≡ state_of old → IfThere (Unless by (DeclChanged x ts by begun mid)) o
        → new.row ≡ closed (change.Form f) from to place mid.row → state_of new ≡ state_of mid
        → IfThere (Unless by (DeclPuts x ts by top old new)) o
    form_made top old begun mid new place from to f o ef eo ep sb h en sn =
        lifted (λ d c e.
        in_form top old begun mid new place from to d eo ep sb (c e)
        (en ∙ ap (λ (f : Form). closed (change.Form f) from to place mid.row) ef) sn) h

    pub cleared : (top : Bool) (old begun mid new : Draft) (place from to : ℕ) (o : Option Decl) → top ≡ false
        → begun.row ≡ old.row ++ opened → place ≡ length old.row → state_of begun ≡ state_of old
        → IfThere (Unless by (DeclareChanged x ts by begun mid)) o
        → new.row ≡ closed (change.Form (declare_form false)) from to place mid.row → state_of new ≡ state_of mid
        → IfThere (Unless by (DeclPuts x ts by top old new)) o
    cleared top old begun mid new place from to o et eo ep sb h en sn =
        form_made top old begun mid new place from to (declare_form false) o (ap declare_form (sym et)) eo ep sb
        (lifted (λ d c e.
        let w : DeclareChanged x ts by begun mid d = c e in
        record { value = w.value; writes = w.writes; it = w.it; is = w.is; declared = w.declared }) h) en sn

    pub stays_declared : (top : Bool) (old new : Draft) (o : Option Decl) → top ≡ true
        → IfThere (Unless by (DeclareChanged x ts by old new)) o → IfThere (Unless by (DeclPuts x ts by top old new)) o
    stays_declared top old new o et h =
        subst (λ (top : Bool). IfThere (Unless by (DeclPuts x ts by top old new)) o) (sym et)
        (lifted (λ d c e.
        let w : DeclareChanged x ts by old new d = c e in
        record {
          value = w.value;
          writes = w.writes;
          it = w.it;
          declared = w.declared true ∙ ap (λ (d : Decl). (Some d, state_of new)) w.marked;
          decl = w.is;
          stmt = w.stmt;
          item = w.item;
        }) h)
