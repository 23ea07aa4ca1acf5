-- Classes, by what is written of them.
use Rattle.std.specs.Prelude.{ℕ, Bool, true, false, List, [], ◌∷◌, ◌++◌, length, Option, Some, None, option_map, map}
use Rattle.std.proofs.Common.{◌≡◌, refl, sym, ap, subst, ◌∙◌}
use Rattle.base.specs.declared.range.Range.{Range}
use Rattle.es_token.specs.declared.token.Token.{Token}
use Rattle.es_grammar.specs.declared.rows.NodeKind.{NodeKind}
use Rattle.es_grammar.specs.declared.rows.NodeKind.TheVariants as l
use Rattle.es_ast.specs.declared.ts.leaf.Ident.{Ident}
use Rattle.es_ast.specs.declared.ts.ts.TsPart.{TsPart}
use Rattle.es_ast.specs.declared.ast.Class.{Class, roll-Class}
use Rattle.es_ast.specs.declared.ast.ClassMember.{ClassMember}
use Rattle.es_ast.specs.declared.ast.ClassMember.TheOpen.{Decl-F}
use Rattle.es_ast.specs.declared.ast.Decl.{Decl}
use Rattle.es_ast.specs.declared.ast.Decl.TheVariants as vDecl
use Rattle.es_ast.specs.declared.ast.Expr.{Expr}
use Rattle.es_ast.specs.declared.ast.ModuleItem.TheVariants as vItem
use Rattle.es_ast.specs.declared.ast.Stmt.TheVariants as vStmt
use Rattle.es_lowering.specs.Value.{Value, given, part, as_group, group, optional, turns, expr_at, member_at}
use Rattle.es_lowering.specs.Texts.{span_of, own_name_at}
use Rattle.es_lowering.specs.Classes.{class_}
use Rattle.es_lowering.specs.TypedParts.{args_part_at, heritage_in, params_part_at}
use Rattle.es_lowering.specs.TypedFunctions.{typed_class}
use Rattle.es_lowering.specs.TypedStatements.{Declarable}
use Rattle.es_lowering.specs.Lowering.{packed, build, decl_of, declarable_of, stmt_of, module_decl_of}
use Rattle.es_syntax.specs.declared.entry.What.{What}
use Rattle.es_syntax.specs.declared.entry.What.TheVariants as vWhat
use Rattle.es_syntax.specs.declared.cursor.Item.{Item}
use Rattle.es_syntax.specs.Held.{held, made, node_of, parts_of, valued}
use Rattle.es_syntax.specs.Roles.{decl_in, declarable_in, item_in, stmt_in}
use Rattle.es_changed.specs.declared.entry.Change.TheVariants as change
use Rattle.es_changed.specs.Shape.{closed, opened, Writes}
use Rattle.es_changed.proofs.Equations.{with_class}
use Rattle.es_changed.proofs.Written.{both_written, group_written, node_written}
use Rattle.dts_rules.specs.Rules as rules
use Rattle.dts_rules.specs.Rules.{Run, State, ShownClass, ShownDecl, ShownMember, after, in_turn, some}
use Rattle.dts_rules.specs.Programs.{shown_class, shown_decl, shown_member}
use Rattle.dts_rules.proofs.Shown.{at_class, at_decl, with_member}
use Rattle.dts_draft.specs.declared.draft.Draft.{Draft}
use Rattle.dts_draft.specs.Drafts.{state_of}
use Rattle.dts_draft.specs.Written.{IfThere}
use Rattle.dts_draft.proofs.Lists.{as_packed, read_turns}
use Rattle.dts_draft.proofs.There.{mapped}
use Rattle.dts_enums.specs.Enums.{Declares}
use Rattle.dts_members.specs.Members.{MembersMade}
use Rattle.dts_members.specs.Classes.{typed_label, ClassMade, DeclWritten}

-- a class with these members
abbrev a_class : Option Ident → Bool → Option TsPart → Option Expr → Option TsPart → Option TsPart → Range
    → List ClassMember → Class
a_class name is_abstract type_params super_class super_type_args implements r members = roll-Class (record {
  ident = name;
  is_abstract = is_abstract;
  type_params = type_params;
  super_class = super_class;
  super_type_args = super_type_args;
  implements = implements;
  body = members;
  span = r;
})

module _ (by : rules.Env) where
  -- ---- by the rules
  turned : (ms : List ClassMember) (s : State)
      → in_turn (λ (m : ClassMember × ShownMember). m.1) (map (with_member by) ms) s ≡ in_turn (shown_member by) ms s
  turned [] s = refl
  turned (m ∷ ms) s =
      ap (λ (q : List (Option ClassMember) × State). ((shown_member by m s).0 ∷ q.0, q.1))
      (turned ms (shown_member by m s).1)

  declared_is : (name : Option Ident) (is_abstract : Bool) (type_params : Option TsPart) (super_class : Option Expr)
      (super_type_args implements : Option TsPart) (r : Range) (ms : List ClassMember) (s : State)
      → (shown_class by (a_class name is_abstract type_params super_class super_type_args implements r ms)).declared s
      ≡ after (λ members. a_class name is_abstract type_params super_class super_type_args implements r (some members))
      (in_turn (shown_member by) ms s)
  declared_is name is_abstract type_params None super_type_args implements r ms s =
      ap (λ (k : ShownClass). k.declared s) (at_class by (record {
        ident = name;
        is_abstract = is_abstract;
        type_params = type_params;
        super_class = None;
        super_type_args = super_type_args;
        implements = implements;
        body = ms;
        span = r;
      }))
      ∙ ap (after (λ members. a_class name is_abstract type_params None super_type_args implements r (some members)))
      (turned ms s)
  declared_is name is_abstract type_params (Some e) super_type_args implements r ms s =
      ap (λ (k : ShownClass). k.declared s) (at_class by (record {
        ident = name;
        is_abstract = is_abstract;
        type_params = type_params;
        super_class = Some e;
        super_type_args = super_type_args;
        implements = implements;
        body = ms;
        span = r;
      }))
      ∙ ap (after (λ members. a_class name is_abstract type_params (Some e) super_type_args implements r
      (some members)))
      (turned ms s)

  shown_on : (declare : Bool) (c : Class) (r : Range) (top : Bool) (s : State)
      → (shown_decl by (vDecl.Class declare c r)).declared top s
      ≡ after (λ (c : Class). Some (vDecl.Class top c r)) ((shown_class by c).declared s)
  shown_on declare c r top s =
      ap (λ (k : ShownDecl). k.declared top s)
      (ap (shown_decl by) (sym (vDecl.rolls-Class declare c r)) ∙ at_decl by (Decl-F.Decl::Class declare c r))

  shown_default : (declare : Bool) (c : Class) (r : Range) (s : State)
      → (shown_decl by (vDecl.Class declare c r)).defaulted s
      ≡ after (λ (c : Class). vDecl.Class declare c r) ((shown_class by c).declared s)
  shown_default declare c r s =
      ap (λ (k : ShownDecl). k.defaulted s)
      (ap (shown_decl by) (sym (vDecl.rolls-Class declare c r)) ∙ at_decl by (Decl-F.Decl::Class declare c r))

  module _ (x : List ℕ) (ts : List Token) where
    -- ---- what is written
    -- a class of these parts but for its members
    abbrev Reads : (Value → Option Class) → List Value → (List ClassMember → Option Class) → Type 0
    Reads read front make =
        (vs : List Value) (them : List ClassMember) → turns (λ turn. member_at turn 0) (packed vs) ≡ Some them
        → read (packed (front ++ packed vs ∷ [])) ≡ make them

    written : (label : NodeKind) (read : Value → Option Class) (front : List Value) (name : Option Ident)
        (is_abstract : Bool) (type_params : Option TsPart) (super_class : Option Expr)
        (super_type_args implements : Option TsPart) (r : Range)
        → Reads read front (λ them. Some (a_class name is_abstract type_params super_class super_type_args implements r
        them))
        → (old begun kept grouped filled closed_ new : Draft) (place spot from to : ℕ) (ms : List ClassMember)
        → begun.row ≡ old.row ++ opened → place ≡ length old.row → Writes x ts begun.row kept.row front
        → grouped.row ≡ kept.row ++ opened → spot ≡ length kept.row → state_of grouped ≡ state_of old
        → MembersMade x ts by grouped filled ms → closed_.row ≡ closed (change.Old vWhat.Parts) 0 0 spot filled.row
        → new.row ≡ closed (change.Old (vWhat.Node label)) from to place closed_.row → state_of new ≡ state_of filled
        → ClassMade x ts by old new label from to read
        (a_class name is_abstract type_params super_class super_type_args implements r ms)
    written label read front name is_abstract type_params super_class super_type_args implements r reads old begun kept
        grouped filled closed_ new place spot from to ms eo ep wf eg es sg h ec en sn = record {
          parts = front ++ packed h.puts.values ∷ [];
          writes = node_written x ts label from to place old.row begun.row closed_.row new.row
              (front ++ packed h.puts.values ∷ []) eo ep
              (both_written x ts begun.row kept.row closed_.row front (packed h.puts.values ∷ []) wf
              (group_written x ts 0 0 spot kept.row grouped.row filled.row closed_.row h.puts.values eg es h.puts.writes
              ec)) en;
          it = make (in_turn (shown_member by) ms (state_of grouped)).0;
          is = reads h.puts.values (some (in_turn (shown_member by) ms (state_of grouped)).0)
              (read_turns (λ turn. member_at turn 0) h.puts.values
              (some (in_turn (shown_member by) ms (state_of grouped)).0)
              h.puts.are);
          declared =
              declared_is name is_abstract type_params super_class super_type_args implements r ms (state_of old)
              ∙ (ap (λ (s : State). after make (in_turn (shown_member by) ms s)) (sym sg)
              ∙ ap (λ (s : State). (make (in_turn (shown_member by) ms (state_of grouped)).0, s)) (sym (sn ∙ h.state)));
        }
      where
        make : List (Option ClassMember) → Class
        make members =
            a_class name is_abstract type_params super_class super_type_args implements r (some members)

    abbrev Plain : Draft → Draft → ℕ → ℕ → Range → Option Class → Type 0
    Plain old new from to r o = IfThere (ClassMade x ts by old new l.Class from to (class_ x ts r)) o

    pub plain_class : (old begun one two grouped filled closed_ new : Draft) (place spot from to : ℕ) (r : Range)
        (p row : Value)
        → row ≡ group p 2 → begun.row ≡ old.row ++ opened → place ≡ length old.row
        → Writes x ts begun.row one.row (part p 0 ∷ []) → Writes x ts one.row two.row (part p 1 ∷ [])
        → grouped.row ≡ two.row ++ opened → spot ≡ length two.row → state_of grouped ≡ state_of old
        → IfThere (MembersMade x ts by grouped filled) (turns (λ turn. member_at turn 0) row)
        → closed_.row ≡ closed (change.Old vWhat.Parts) 0 0 spot filled.row
        → new.row ≡ closed (change.Old (vWhat.Node l.Class)) from to place closed_.row
        → state_of new ≡ state_of filled → Plain old new from to r (class_ x ts r p)
    unfolding class_
    plain_class old begun one two grouped filled closed_ new place spot from to r p row er eo ep w0 w1 eg es sg h ec en
        sn =
        go (own_name_at x ts p 0) refl (optional expr_at (group p 1)) refl
        (turns (λ turn. member_at turn 0) (group p 2))
        (subst (λ (row : Value). IfThere (MembersMade x ts by grouped filled) (turns (λ turn. member_at turn 0) row)) er
        h)
      where
        reads : (name : Option Ident) → own_name_at x ts p 0 ≡ Some name → (sc : Option Expr)
            → optional expr_at (group p 1) ≡ Some sc
            → Reads (class_ x ts r) (part p 0 ∷ part p 1 ∷ [])
            (λ them. Some (a_class name false None sc None None r them))
        reads name en sc ec vs them e =
            ap (λ (o : Option (Option Ident)). given o (λ name. given (optional expr_at (group p 1)) (λ sc.
            given (turns (λ turn. member_at turn 0) (as_group (packed vs))) (λ them.
            Some (a_class name false None sc None None r them))))) en
            ∙ (ap (λ (o : Option (Option Expr)). given o (λ sc.
            given (turns (λ turn. member_at turn 0) (as_group (packed vs))) (λ them.
            Some (a_class name false None sc None None r them)))) ec
            ∙ (ap (λ (v : Value). given (turns (λ turn. member_at turn 0) v) (λ them.
            Some (a_class name false None sc None None r them))) (as_packed vs)
            ∙ ap (λ (o : Option (List ClassMember)). given o (λ them.
            Some (a_class name false None sc None None r them))) e))

        go : (n : Option (Option Ident)) → own_name_at x ts p 0 ≡ n → (sc : Option (Option Expr))
            → optional expr_at (group p 1) ≡ sc → (all : Option (List ClassMember))
            → IfThere (MembersMade x ts by grouped filled) all
            → Plain old new from to r (given n (λ name. given sc (λ sc. given all (λ them.
            Some (a_class name false None sc None None r them)))))
        go None ne sc se all h = record { is = tt }
        go (Some name) ne None se all h = record { is = tt }
        go (Some name) ne (Some sc) se None h = record { is = tt }
        go (Some name) ne (Some sc) se (Some ms) h = record {
          is = written l.Class (class_ x ts r) (part p 0 ∷ part p 1 ∷ []) name false None sc None None r
              (reads name ne sc se) old begun two grouped filled closed_ new place spot from to ms eo ep
              (both_written x ts begun.row one.row two.row (part p 0 ∷ []) (part p 1 ∷ []) w0 w1) eg es sg h.is ec en
              sn;
        }

    abbrev Typed : Draft → Draft → Bool → ℕ → ℕ → Range → Option Class → Type 0
    Typed old new is_abstract from to r o =
        IfThere (ClassMade x ts by old new (typed_label is_abstract) from to (typed_class x ts is_abstract r)) o

    pub typed_class_made : (is_abstract : Bool) (old begun one two three four grouped filled closed_ new : Draft)
        (place spot from to : ℕ) (r : Range) (p row : Value)
        → row ≡ group p 4 → begun.row ≡ old.row ++ opened → place ≡ length old.row
        → Writes x ts begun.row one.row (part p 0 ∷ []) → Writes x ts one.row two.row (part p 1 ∷ [])
        → Writes x ts two.row three.row (part p 2 ∷ []) → Writes x ts three.row four.row (part p 3 ∷ [])
        → grouped.row ≡ four.row ++ opened → spot ≡ length four.row → state_of grouped ≡ state_of old
        → IfThere (MembersMade x ts by grouped filled) (turns (λ turn. member_at turn 0) row)
        → closed_.row ≡ closed (change.Old vWhat.Parts) 0 0 spot filled.row
        → new.row ≡ closed (change.Old (vWhat.Node (typed_label is_abstract))) from to place closed_.row
        → state_of new ≡ state_of filled
        → Typed old new is_abstract from to r (typed_class x ts is_abstract r p)
    unfolding typed_class
    typed_class_made is_abstract old begun one two three four grouped filled closed_ new place spot from to r p row er
        eo
        ep w0 w1 w2 w3 eg es sg h ec en sn =
        go (own_name_at x ts p 0) refl (params_part_at p 1) refl (optional expr_at (group p 2)) refl
        (args_part_at (group p 2) 1) refl (heritage_in ts (group p 3)) refl
        (turns (λ turn. member_at turn 0) (group p 4))
        (subst (λ (row : Value). IfThere (MembersMade x ts by grouped filled) (turns (λ turn. member_at turn 0) row)) er
        h)
      where
        front : List Value
        front = part p 0 ∷ part p 1 ∷ part p 2 ∷ part p 3 ∷ []

        kept : Writes x ts begun.row four.row (part p 0 ∷ part p 1 ∷ part p 2 ∷ part p 3 ∷ [])
        kept =
            both_written x ts begun.row one.row four.row (part p 0 ∷ []) (part p 1 ∷ part p 2 ∷ part p 3 ∷ []) w0
            (both_written x ts one.row two.row four.row (part p 1 ∷ []) (part p 2 ∷ part p 3 ∷ []) w1
            (both_written x ts two.row three.row four.row (part p 2 ∷ []) (part p 3 ∷ []) w2 w3))

        last : Option Ident → Option TsPart → Option Expr → Option TsPart → Option TsPart
            → Option (List ClassMember) → Option Class
        last name tp sc sta im o =
            given o (λ them. Some (a_class name is_abstract tp sc sta im r them))

        reads : (name : Option Ident) → own_name_at x ts p 0 ≡ Some name → (tp : Option TsPart)
            → params_part_at p 1 ≡ Some tp → (sc : Option Expr) → optional expr_at (group p 2) ≡ Some sc
            → (sta : Option TsPart) → args_part_at (group p 2) 1 ≡ Some sta → (im : Option TsPart)
            → heritage_in ts (group p 3) ≡ Some im
            → Reads (typed_class x ts is_abstract r) (part p 0 ∷ part p 1 ∷ part p 2 ∷ part p 3 ∷ [])
            (λ them. Some (a_class name is_abstract tp sc sta im r them))
        reads name ne tp te sc se sta ae im ie vs them e =
            ap (λ (o : Option (Option Ident)). given o (λ name. given (params_part_at p 1) (λ tp.
            given (optional expr_at (group p 2)) (λ sc. given (args_part_at (group p 2) 1) (λ sta.
            given (heritage_in ts (group p 3)) (λ im. last name tp sc sta im
            (turns (λ turn. member_at turn 0) (as_group (packed vs))))))))) ne
            ∙ (ap (λ (o : Option (Option TsPart)). given o (λ tp.
            given (optional expr_at (group p 2)) (λ sc. given (args_part_at (group p 2) 1) (λ sta.
            given (heritage_in ts (group p 3)) (λ im. last name tp sc sta im
            (turns (λ turn. member_at turn 0) (as_group (packed vs)))))))) te
            ∙ (ap (λ (o : Option (Option Expr)). given o (λ sc. given (args_part_at (group p 2) 1) (λ sta.
            given (heritage_in ts (group p 3)) (λ im. last name tp sc sta im
            (turns (λ turn. member_at turn 0) (as_group (packed vs))))))) se
            ∙ (ap (λ (o : Option (Option TsPart)). given o (λ sta.
            given (heritage_in ts (group p 3)) (λ im. last name tp sc sta im
            (turns (λ turn. member_at turn 0) (as_group (packed vs)))))) ae
            ∙ (ap (λ (o : Option (Option TsPart)). given o (λ im. last name tp sc sta im
            (turns (λ turn. member_at turn 0) (as_group (packed vs))))) ie
            ∙ (ap (λ (v : Value). last name tp sc sta im (turns (λ turn. member_at turn 0) v)) (as_packed vs)
            ∙ ap (last name tp sc sta im) e)))))

        go : (n : Option (Option Ident)) → own_name_at x ts p 0 ≡ n → (tp : Option (Option TsPart))
            → params_part_at p 1 ≡ tp → (sc : Option (Option Expr)) → optional expr_at (group p 2) ≡ sc
            → (sta : Option (Option TsPart)) → args_part_at (group p 2) 1 ≡ sta → (im : Option (Option TsPart))
            → heritage_in ts (group p 3) ≡ im → (all : Option (List ClassMember))
            → IfThere (MembersMade x ts by grouped filled) all
            → Typed old new is_abstract from to r (given n (λ name. given tp (λ tp. given sc (λ sc. given sta (λ sta.
            given im (λ im. last name tp sc sta im all))))))
        go None ne tp te sc se sta ae im ie all h = record { is = tt }
        go (Some name) ne None te sc se sta ae im ie all h = record { is = tt }
        go (Some name) ne (Some tp) te None se sta ae im ie all h = record { is = tt }
        go (Some name) ne (Some tp) te (Some sc) se None ae im ie all h = record { is = tt }
        go (Some name) ne (Some tp) te (Some sc) se (Some sta) ae None ie all h = record { is = tt }
        go (Some name) ne (Some tp) te (Some sc) se (Some sta) ae (Some im) ie None h = record { is = tt }
        go (Some name) ne (Some tp) te (Some sc) se (Some sta) ae (Some im) ie (Some ms) h = record {
          is = written (typed_label is_abstract) (typed_class x ts is_abstract r) front name is_abstract tp sc sta im r
              (reads name ne tp te sc se sta ae im ie) old begun four grouped filled closed_ new place spot from to ms
              eo ep kept eg es sg h.is ec en sn;
        }

    -- ---- declarations
    decl_written : (old new : Draft) (label : NodeKind) (from to : ℕ) (read : Value → Option Class) (c : Class)
        → ((p : Value) → decl_in (node_of x ts label from to p)
        ≡ option_map (λ class. vDecl.Class false class (span_of ts from to)) (read p))
        → ((p : Value) → stmt_in (node_of x ts label from to p)
        ≡ option_map vStmt.Decl (decl_in (node_of x ts label from to p)))
        → ((p : Value) → item_in (node_of x ts label from to p)
        ≡ option_map vItem.Stmt (stmt_in (node_of x ts label from to p)))
        → ClassMade x ts by old new label from to read c
        → DeclWritten x ts by old new (vDecl.Class false c (span_of ts from to))
    decl_written old new label from to read c ed es ei m =
        let r : Range = span_of ts from to in
        let d : decl_in (node_of x ts label from to (packed m.parts)) ≡ Some (vDecl.Class false m.it r) =
        ed (packed m.parts) ∙ ap (option_map (λ (class : Class). vDecl.Class false class r)) m.is in
        let s : stmt_in (node_of x ts label from to (packed m.parts)) ≡ Some (vStmt.Decl (vDecl.Class false m.it r)) =
        es (packed m.parts) ∙ ap (option_map vStmt.Decl) d in
        record {
          value = node_of x ts label from to (packed m.parts);
          writes = m.writes;
          it = vDecl.Class false m.it r;
          is = d;
          stmt = s;
          item = ei (packed m.parts) ∙ ap (option_map vItem.Stmt) s;
          declared = λ top.
              shown_on false c r top (state_of old)
              ∙ (ap (after (λ (c : Class). Some (vDecl.Class top c r))) m.declared
              ∙ ap (λ (d : Decl). (Some d, state_of new)) (sym (with_class top false m.it r)));
          defaulted =
              shown_default false c r (state_of old) ∙ ap (after (λ (c : Class). vDecl.Class false c r)) m.declared;
        }

    abbrev read_declarable : Option Class → Option Declarable
    read_declarable o = option_map (λ class declare span. vDecl.Class declare class span) o

    declares : (old new : Draft) (label : NodeKind) (from to : ℕ) (read : Value → Option Class) (c : Class)
        → ((p : Value) → declarable_in (node_of x ts label from to p) ≡ read_declarable (read p))
        → ((p : Value) → decl_in (node_of x ts label from to p)
        ≡ option_map (λ class. vDecl.Class false class (span_of ts from to)) (read p))
        → ClassMade x ts by old new label from to read c
        → Declares x ts by old new (span_of ts from to) (λ declare span. vDecl.Class declare c span)
    declares old new label from to read c e ed m = record {
      value = node_of x ts label from to (packed m.parts);
      writes = m.writes;
      it = λ declare span. vDecl.Class declare m.it span;
      is = e (packed m.parts)
          ∙ ap (λ (o : Option Class). read_declarable o) m.is;
      decl = ed (packed m.parts)
          ∙ ap (option_map (λ (class : Class). vDecl.Class false class (span_of ts from to))) m.is;
      declared = λ declare top r.
          shown_on declare c r top (state_of old)
          ∙ ap (after (λ (c : Class). Some (vDecl.Class top c r))) m.declared;
      defaulted = λ declare r.
          shown_default declare c r (state_of old) ∙ ap (after (λ (c : Class). vDecl.Class declare c r)) m.declared;
      marked = λ declare again r. with_class again declare m.it r;
    }

    -- ---- at its place
    twice : (r : Range) (o : Option Class)
        → option_map (λ (d : Declarable). d false r)
        (option_map (λ class declare span. vDecl.Class declare class span) o)
        ≡ option_map (λ class. vDecl.Class false class r) o
    twice r None = refl
    twice r (Some c) = refl

    at_node : (i : Item) (label : NodeKind) → i.what ≡ vWhat.Node label → (P : Value → Type 0)
        → P (node_of x ts label i.from i.to (held x ts i.parts.entries.now)) → P (valued x ts i)
    at_node i label is P h =
        subst (λ (w : What). P (made x ts w i.from i.to (held x ts i.parts.entries.now)
        (parts_of x ts i.parts.entries.now))) (sym is) h

    abbrev labelled : (i : Item) (label other : NodeKind) → i.what ≡ vWhat.Node label → label ≡ other
        → i.what ≡ vWhat.Node other
    labelled i label other is e = is ∙ ap (λ (label : NodeKind). vWhat.Node label) e

    module _ (old new : Draft) (i : Item) (label : NodeKind) where
      abbrev place_ : Range
      place_ = span_of ts i.from i.to

      abbrev parts_ : Value
      parts_ = held x ts i.parts.entries.now

      pub plain_decl : i.what ≡ vWhat.Node label → label ≡ l.Class
          → Plain old new i.from i.to place_ (class_ x ts place_ parts_)
          → IfThere (DeclWritten x ts by old new) (decl_in (valued x ts i))
      unfolding build decl_of stmt_of module_decl_of
      plain_decl is e h =
          at_node i l.Class (labelled i label l.Class is e) (λ v. IfThere (DeclWritten x ts by old new) (decl_in v))
          (mapped (ClassMade x ts by old new l.Class i.from i.to (class_ x ts place_)) (DeclWritten x ts by old new)
          (λ class. vDecl.Class false class place_) (class_ x ts place_ parts_)
          (λ c m. decl_written old new l.Class i.from i.to (class_ x ts place_) c (λ p. refl) (λ p. refl) (λ p. refl) m)
          h)

      -- it never follows `declare`
      pub plain_declarable : i.what ≡ vWhat.Node label → label ≡ l.Class
          → IfThere (Declares x ts by old new place_) (declarable_in (valued x ts i))
      unfolding build declarable_of
      plain_declarable is e =
          at_node i l.Class (labelled i label l.Class is e)
          (λ v. IfThere (Declares x ts by old new place_) (declarable_in v)) (record { is = tt })

      pub typed_decl : i.what ≡ vWhat.Node label → label ≡ l.TypedClass
          → Typed old new false i.from i.to place_ (typed_class x ts false place_ parts_)
          → IfThere (DeclWritten x ts by old new) (decl_in (valued x ts i))
      unfolding build decl_of declarable_of stmt_of module_decl_of
      typed_decl is e h =
          at_node i l.TypedClass (labelled i label l.TypedClass is e)
          (λ v. IfThere (DeclWritten x ts by old new) (decl_in v))
          (mapped (λ (d : Declarable). DeclWritten x ts by old new (d false place_)) (DeclWritten x ts by old new)
          (λ d. d false place_)
          (option_map (λ class declare span. vDecl.Class declare class span) (typed_class x ts false place_ parts_))
          (λ d w. w)
          (mapped (ClassMade x ts by old new l.TypedClass i.from i.to (typed_class x ts false place_))
          (λ (d : Declarable). DeclWritten x ts by old new (d false place_))
          (λ class declare span. vDecl.Class declare class span) (typed_class x ts false place_ parts_)
          (λ c m. decl_written old new l.TypedClass i.from i.to (typed_class x ts false place_) c
          (λ p. twice place_ (typed_class x ts false place_ p)) (λ p. refl) (λ p. refl) m) h))

      pub abstract_decl : i.what ≡ vWhat.Node label → label ≡ l.AbstractClass
          → Typed old new true i.from i.to place_ (typed_class x ts true place_ parts_)
          → IfThere (DeclWritten x ts by old new) (decl_in (valued x ts i))
      unfolding build decl_of declarable_of stmt_of module_decl_of
      abstract_decl is e h =
          at_node i l.AbstractClass (labelled i label l.AbstractClass is e)
          (λ v. IfThere (DeclWritten x ts by old new) (decl_in v))
          (mapped (λ (d : Declarable). DeclWritten x ts by old new (d false place_)) (DeclWritten x ts by old new)
          (λ d. d false place_)
          (option_map (λ class declare span. vDecl.Class declare class span) (typed_class x ts true place_ parts_))
          (λ d w. w)
          (mapped (ClassMade x ts by old new l.AbstractClass i.from i.to (typed_class x ts true place_))
          (λ (d : Declarable). DeclWritten x ts by old new (d false place_))
          (λ class declare span. vDecl.Class declare class span) (typed_class x ts true place_ parts_)
          (λ c m. decl_written old new l.AbstractClass i.from i.to (typed_class x ts true place_) c
          (λ p. twice place_ (typed_class x ts true place_ p)) (λ p. refl) (λ p. refl) m) h))

      pub typed_declarable : i.what ≡ vWhat.Node label → label ≡ l.TypedClass
          → Typed old new false i.from i.to place_ (typed_class x ts false place_ parts_)
          → IfThere (Declares x ts by old new place_) (declarable_in (valued x ts i))
      unfolding build decl_of declarable_of
      typed_declarable is e h =
          at_node i l.TypedClass (labelled i label l.TypedClass is e)
          (λ v. IfThere (Declares x ts by old new place_) (declarable_in v))
          (mapped (ClassMade x ts by old new l.TypedClass i.from i.to (typed_class x ts false place_))
          (Declares x ts by old new place_) (λ class declare span. vDecl.Class declare class span)
          (typed_class x ts false place_ parts_)
          (λ c m. declares old new l.TypedClass i.from i.to (typed_class x ts false place_) c (λ p. refl)
          (λ p. twice place_ (typed_class x ts false place_ p)) m) h)

      pub abstract_declarable : i.what ≡ vWhat.Node label → label ≡ l.AbstractClass
          → Typed old new true i.from i.to place_ (typed_class x ts true place_ parts_)
          → IfThere (Declares x ts by old new place_) (declarable_in (valued x ts i))
      unfolding build decl_of declarable_of
      abstract_declarable is e h =
          at_node i l.AbstractClass (labelled i label l.AbstractClass is e)
          (λ v. IfThere (Declares x ts by old new place_) (declarable_in v))
          (mapped (ClassMade x ts by old new l.AbstractClass i.from i.to (typed_class x ts true place_))
          (Declares x ts by old new place_) (λ class declare span. vDecl.Class declare class span)
          (typed_class x ts true place_ parts_)
          (λ c m. declares old new l.AbstractClass i.from i.to (typed_class x ts true place_) c (λ p. refl)
          (λ p. twice place_ (typed_class x ts true place_ p)) m) h)
