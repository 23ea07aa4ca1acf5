-- What declarators are, by what is written of them.
use Rattle.std.specs.Prelude.{ℕ, Bool, false, List, [], ◌∷◌, ◌++◌, length, Option, Some, None, option_map, slice_get}
use Rattle.std.proofs.Common.{◌≡◌, refl, sym, ap, subst, ◌∙◌}
use Rattle.base.specs.declared.range.Range.{Range}
use Rattle.es_token.specs.declared.token.Token.{Token}
use Rattle.es_grammar.specs.declared.rows.NodeKind.TheVariants as l
use Rattle.es_ast.specs.declared.ts.leaf.Ident.{Ident}
use Rattle.es_ast.specs.declared.ts.ts.TsPart.{TsPart}
use Rattle.es_ast.specs.declared.ts.ts.TsPart.TheVariants as vPart
use Rattle.es_ast.specs.declared.ts.ts.TsType.{TsType}
use Rattle.es_ast.specs.declared.ast.Expr.{Expr}
use Rattle.es_ast.specs.declared.ast.Pat.{Pat}
use Rattle.es_ast.specs.declared.ast.Pat.TheVariants as vPat
use Rattle.es_ast.specs.declared.ast.VarDeclarator.{VarDeclarator}
use Rattle.es_lowering.specs.Value.{Value, nil, more, given, as_group, is_there, type_at, first_of, behind}
use Rattle.es_lowering.specs.Texts.{ident_of, span_of}
use Rattle.es_lowering.specs.TypeNames.{behind_in}
use Rattle.es_lowering.specs.TypeTexts as type_texts
use Rattle.es_lowering.specs.TypedParts.{marked_by}
use Rattle.es_lowering.specs.TypedStatements.{typed_declarator}
use Rattle.es_lowering.specs.Lowering.{packed, build}
use Rattle.es_lowering.specs.Lowering as lowering
use Rattle.es_syntax.specs.declared.entry.What.TheVariants as vWhat
use Rattle.es_syntax.specs.declared.cursor.Item.{Item}
use Rattle.es_syntax.specs.Held.{node_of, valued}
use Rattle.es_syntax.specs.Roles.{declarator_in, marked_in}
use Rattle.es_changed.specs.declared.entry.Change.TheVariants as change
use Rattle.es_changed.specs.declared.entry.ChangedEntry.{ChangedEntry}
use Rattle.es_changed.specs.Shape.{closed, opened, Writes}
use Rattle.es_changed.proofs.Written.{both_written, node_written}
use Rattle.es_view_expressions.specs.pattern.Marked as marked_view
use Rattle.es_view_statements.specs.param.Param.{Marked}
use Rattle.dts_rules.specs.declared.found.FoundKind.TheVariants as kind
use Rattle.dts_rules.specs.Made.{annotation}
use Rattle.dts_rules.specs.Rules.{Env, State, after, note}
use Rattle.dts_rules.specs.Programs.{shown_declarator}
use Rattle.dts_draft.specs.declared.draft.Draft.{Draft}
use Rattle.dts_draft.specs.Drafts.{state_of}
use Rattle.dts_draft.specs.Written.{IfThere}
use Rattle.dts_draft.proofs.There.{lifted}
use Rattle.dts_parts.specs.Groups.{annotation_in, KeptGroup}
use Rattle.dts_variables.specs.Declarators.{declarator_by, declarator_with, named_pattern, named_range, value_type, Typed, Bare, DeclaratorMade, NameMade}
use Rattle.dts_variables.proofs.RuleLemmas as rule

module _ (x : List ℕ) (ts : List Token) where
  -- a declarator without a value, by its parts
  pub reads : (from to : ℕ) (name k a : Value) (pat : Pat) → named_pattern ts name (as_group a) ≡ Some pat
      → declarator_in (node_of x ts l.TypedDeclarator from to (packed (name ∷ k ∷ a ∷ nil ∷ [])))
      ≡ Some (declarator_by (span_of ts from to) (is_there (as_group k)) None pat)
  unfolding build lowering.declarator_of typed_declarator
  reads from to name k a pat e =
      ap (λ (o : Option Pat). given o
      (λ pat. Some (declarator_by (span_of ts from to) (is_there (as_group k)) None pat))) e

  written : (old begun named marked typed ended new : List ChangedEntry) (place from to : ℕ) (name k a : Value)
      → begun ≡ old ++ opened → place ≡ length old → Writes x ts begun named (name ∷ [])
      → Writes x ts named marked (k ∷ []) → Writes x ts marked typed (a ∷ []) → Writes x ts typed ended (nil ∷ [])
      → new ≡ closed (change.Old (vWhat.Node l.TypedDeclarator)) from to place ended
      → Writes x ts old new (node_of x ts l.TypedDeclarator from to (packed (name ∷ k ∷ a ∷ nil ∷ [])) ∷ [])
  written old begun named marked typed ended new place from to name k a eo ep wn wk wa we en =
      node_written x ts l.TypedDeclarator from to place old begun ended new (name ∷ k ∷ a ∷ nil ∷ []) eo ep
      (both_written x ts begun named ended (name ∷ []) (k ∷ a ∷ nil ∷ []) wn
      (both_written x ts named marked ended (k ∷ []) (a ∷ nil ∷ []) wk
      (both_written x ts marked typed ended (a ∷ []) (nil ∷ []) wa we))) en

  -- its parts stay
  pub kept : (old begun named marked typed absent_ ended new : List ChangedEntry) (place from to : ℕ)
      (name mark ty : Value)
      → begun ≡ old ++ opened → place ≡ length old → Writes x ts begun named (name ∷ [])
      → KeptGroup x ts named marked mark → KeptGroup x ts marked typed ty → Writes x ts typed absent_ (nil ∷ [])
      → Writes x ts absent_ ended []
      → new ≡ closed (change.Old (vWhat.Node l.TypedDeclarator)) from to place ended
      → IfThere (Bare x ts old new (span_of ts from to) (is_there mark)) (named_pattern ts name ty)
  kept old begun named marked typed absent_ ended new place from to name mark ty eo ep wn k a we wd en =
      go (named_pattern ts name ty) refl
    where
      go : (o : Option Pat) → named_pattern ts name ty ≡ o
          → IfThere (Bare x ts old new (span_of ts from to) (is_there mark)) o
      go None is = record { is = tt }
      go (Some pat) is = record {
        is = record {
          value = node_of x ts l.TypedDeclarator from to (packed (name ∷ k.value ∷ a.value ∷ nil ∷ []));
          writes = written old begun named marked typed ended new place from to name k.value a.value eo ep wn k.writes
              a.writes (both_written x ts typed absent_ ended (nil ∷ []) [] we wd) en;
          is = reads from to name k.value a.value pat (ap (named_pattern ts name) a.is ∙ is)
              ∙ ap (λ (b : Bool). Some (declarator_by (span_of ts from to) b None pat)) (ap is_there k.is);
        };
      }

  module _ (by : Env) where
    -- what the rules make of a pattern that stays
    bare_made : (old new : Draft) (r : Range) (d : Bool) (init : Option Expr) (pat : Pat)
        → Bare x ts old.row new.row r d pat
        → shown_declarator by (declarator_by r d init pat) (state_of old) ≡ (declarator_by r d None pat, state_of new)
        → DeclaratorMade x ts by old new (declarator_by r d init pat)
    bare_made old new r d init pat b e = record {
      state = ap (λ (p : VarDeclarator × State). p.1) (sym e);
      puts = record {
        value = b.value;
        writes = b.writes;
        is = b.is ∙ ap (λ (p : VarDeclarator × State). Some p.0) (sym e);
      };
    }

    pub other_made : (old new : Draft) (r : Range) (d : Bool) (name ty : Value) (value : Option (Option Expr))
        → IfThere (rule.Other by) (marked_in name) → state_of new ≡ note kind.UnableToInferType r (state_of old)
        → IfThere (Bare x ts old.row new.row r d) (named_pattern ts name ty)
        → IfThere (DeclaratorMade x ts by old new) (declarator_with r d (named_pattern ts name ty) value)
    other_made old new r d name ty value h sn b = go (annotation_in ty) (marked_in name) h b value
      where
        place : Range
        place = named_range ts name ty

        go : (a : Option (Option TsPart)) (k : Option Marked) → IfThere (rule.Other by) k
            → IfThere (Bare x ts old.row new.row r d) (given a (λ a. marked_by k false a place))
            → (value : Option (Option Expr))
            → IfThere (DeclaratorMade x ts by old new)
            (declarator_with r d (given a (λ a. marked_by k false a place)) value)
        go None k h b value = record { is = tt }
        go (Some a) None h b value = record { is = tt }
        go (Some a) (Some k) h b None = record { is = tt }
        go (Some a) (Some k) h b (Some init) = record {
          is = bare_made old new r d init (k false a place) b.is
              (h.is a place r d init (state_of old)
              ∙ ap (λ (s : State). (declarator_by r d None (k false a place), s)) (sym sn));
        }

    -- a name with a type
    pub typed_made : (old new : Draft) (r : Range) (d : Bool) (at : ℕ) (name ty v vs : Value)
        (value : Option (Option Expr))
        → ty ≡ more v vs → marked_in name ≡ marked_view.ident x (slice_get ts at) → state_of new ≡ state_of old
        → IfThere (Bare x ts old.row new.row r d) (named_pattern ts name ty)
        → IfThere (DeclaratorMade x ts by old new) (declarator_with r d (named_pattern ts name ty) value)
    unfolding marked_view.ident
    typed_made old new r d at name ty v vs value et same sn b =
        subst (λ (o : Option Pat). IfThere (DeclaratorMade x ts by old new) (declarator_with r d o value)) (sym is)
        (go (type_at (more v vs) 0) (slice_get ts at)
        (subst (λ (o : Option Pat). IfThere (Bare x ts old.row new.row r d) o) is b) value)
      where
        place : Range
        place = named_range ts name ty

        ident : Option Token → Option Marked
        ident o = option_map (λ id mark ty r. vPat.Ident (type_texts.marked mark id) ty r) (option_map (ident_of x) o)

        pat_by : Option TsType → Option Token → Option Pat
        pat_by o t =
            given (option_map (λ ty. option_map vPart.TypeAnn ty) (option_map Some o))
            (λ a. marked_by (ident t) false a place)

        is : named_pattern ts name ty ≡ pat_by (type_at (more v vs) 0) (slice_get ts at)
        is =
            ap (λ (w : Value). given (annotation_in w) (λ a. marked_by (marked_in name) false a place)) et
            ∙ ap (λ (k : Option Marked). given (annotation_in (more v vs)) (λ a. marked_by k false a place)) same

        go : (o : Option TsType) (t : Option Token) → IfThere (Bare x ts old.row new.row r d) (pat_by o t)
            → (value : Option (Option Expr))
            → IfThere (DeclaratorMade x ts by old new) (declarator_with r d (pat_by o t) value)
        go None t b value = record { is = tt }
        go (Some o) None b value = record { is = tt }
        go (Some o) (Some t) b None = record { is = tt }
        go (Some o) (Some t) b (Some init) = record {
          is = bare_made old new r d init _ b.is
              (rule.typed_name by (type_texts.marked false (ident_of x t)) (vPart.TypeAnn o) place r d init
              (state_of old)
              ∙ ap (λ (s : State). (
                declarator_by r d None
                    (vPat.Ident (type_texts.marked false (ident_of x t)) (Some (vPart.TypeAnn o)) place),
                s,
              )) (sym sn));
        }

    -- a name without a type
    pub untyped_made : (old new : Draft) (r : Range) (d : Bool) (name ty : Value) (value : Option (Option Expr))
        → ty ≡ nil
        → IfThere (λ m. IfThere (λ init.
        DeclaratorMade x ts by old new (declarator_by r d init (m false None (named_range ts name nil)))) value)
        (marked_in name)
        → IfThere (DeclaratorMade x ts by old new) (declarator_with r d (named_pattern ts name ty) value)
    untyped_made old new r d name ty value et h =
        subst (λ (ty : Value). IfThere (DeclaratorMade x ts by old new)
        (declarator_with r d (named_pattern ts name ty) value)) (sym et) (go (marked_in name) value h)
      where
        place : Range
        place = named_range ts name nil

        go : (k : Option Marked) (value : Option (Option Expr))
            → IfThere (λ (m : Marked). IfThere (λ init.
            DeclaratorMade x ts by old new (declarator_by r d init (m false None place))) value) k
            → IfThere (DeclaratorMade x ts by old new) (declarator_with r d (marked_by k false None place) value)
        go None value h = record { is = tt }
        go (Some k) None h = record { is = tt }
        go (Some k) (Some init) h = record { is = h.is.is }

    -- with the type of its value
    pub inferred : (old begun named marked signed typed absent_ ended new : Draft) (place from to at end : ℕ) (t : Token)
        (i : Item) (mark : Value) (value : Option (Option Expr))
        → slice_get ts at ≡ Some t → behind (valued x ts i) ≡ end → begun.row ≡ old.row ++ opened
        → place ≡ length old.row → Writes x ts begun.row named.row (valued x ts i ∷ [])
        → KeptGroup x ts named.row marked.row mark → Writes x ts marked.row signed.row []
        → state_of signed ≡ state_of old → IfThere (Typed x ts by signed typed end t.range) value
        → Writes x ts typed.row absent_.row (nil ∷ []) → Writes x ts absent_.row ended.row []
        → new.row ≡ closed (change.Old (vWhat.Node l.TypedDeclarator)) from to place ended.row
        → state_of new ≡ state_of typed
        → NameMade x ts by old new (span_of ts from to) at (valued x ts i) (is_there mark) value
    unfolding marked_view.ident
    inferred old begun named marked signed typed absent_ ended new place from to at end t i mark value there ends eo ep
        wn k ws sg h wa wd en sn same =
        subst (λ (o : Option Marked). IfThere (λ m. IfThere (λ init.
        DeclaratorMade x ts by old new (declarator_by r (is_there mark) init (m false None nr))) value) o) (sym known)
        (record { is = lifted (λ init g. one init g) h })
      where
        r : Range
        r = span_of ts from to

        nr : Range
        nr = named_range ts (valued x ts i) nil

        id : Ident
        id = type_texts.marked false (ident_of x t)

        known : marked_in (valued x ts i) ≡ Some (λ mark ty r. vPat.Ident (type_texts.marked mark (ident_of x t)) ty r)
        known =
            same ∙ ap (λ (o : Option Token). option_map (λ id mark ty r. vPat.Ident (type_texts.marked mark id) ty r)
            (option_map (ident_of x) o)) there

        pattern_is : (a : Value) (ty : TsType) → annotation_in (as_group a) ≡ Some (Some (vPart.TypeAnn ty))
            → behind_in (as_group a) (behind (valued x ts i)) ≡ end
            → named_pattern ts (valued x ts i) (as_group a) ≡ Some (vPat.Ident id (annotation ty) nr)
        pattern_is a ty is at_end =
            ap (λ (o : Option (Option TsPart)). given o (λ a_. marked_by (marked_in (valued x ts i)) false a_
            (named_range ts (valued x ts i) (as_group a)))) is
            ∙ (ap (λ (o : Option Marked). marked_by o false (annotation ty)
            (named_range ts (valued x ts i) (as_group a))) known
            ∙ ap (λ (n : ℕ). Some (vPat.Ident id (annotation ty) (span_of ts (first_of (valued x ts i)) n)))
            (at_end ∙ sym ends))

        one : (init : Option Expr) → Typed x ts by signed typed end t.range init
            → DeclaratorMade x ts by old new (declarator_by r (is_there mark) init (vPat.Ident id None nr))
        one init g =
            let ty : TsType = (value_type by t.range init (state_of signed)).0 in
            let it : VarDeclarator = declarator_by r (is_there mark) None (vPat.Ident id (annotation ty) nr) in
            let e : shown_declarator by (declarator_by r (is_there mark) init (vPat.Ident id None nr)) (state_of old)
            ≡ (it, state_of new) =
            rule.untyped_name by x t false nr r (is_there mark) init (state_of old)
            ∙ (ap (λ (s : State). after
            (λ ty. declarator_by r (is_there mark) None (vPat.Ident id (annotation ty) nr))
            (value_type by t.range init s)) (sym sg)
            ∙ ap (λ (s : State). (it, s)) (sym (sn ∙ g.state))) in
            record {
              state = ap (λ (p : VarDeclarator × State). p.1) (sym e);
              puts = record {
                value = node_of x ts l.TypedDeclarator from to
                    (packed (valued x ts i ∷ k.value ∷ g.group.value ∷ nil ∷ []));
                writes = written old.row begun.row named.row signed.row typed.row ended.row new.row place from to
                    (valued x ts i) k.value g.group.value eo ep wn
                    (both_written x ts named.row marked.row signed.row (k.value ∷ []) [] k.writes ws) g.group.writes
                    (both_written x ts typed.row absent_.row ended.row (nil ∷ []) [] wa wd) en;
                is = reads from to (valued x ts i) k.value g.group.value (vPat.Ident id (annotation ty) nr)
                    (pattern_is g.group.value ty g.group.is (g.group.ends (behind (valued x ts i))))
                    ∙ (ap (λ (b : Bool). Some (declarator_by r b None (vPat.Ident id (annotation ty) nr)))
                    (ap is_there k.is)
                    ∙ ap (λ (p : VarDeclarator × State). Some p.0) (sym e));
              };
            }
