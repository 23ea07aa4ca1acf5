-- What namespaces are, by what is written of them.
use Rattle.std.specs.Prelude.{ℕ, ◌+◌, Bool, false, List, [], ◌∷◌, ◌++◌, length, Option, Some, None, option_map, map, slice_get, if◌then◌else◌}
use Rattle.std.proofs.Common.{◌≡◌, refl, sym, ap, subst, ◌∙◌}
use Rattle.base.specs.declared.range.Range.{Range}
use Rattle.es_token.specs.declared.token.Token.{Token}
use Rattle.es_token.specs.declared.token.TokenKind.{TokenKind}
use Rattle.es_token.specs.declared.token.TokenKind.TheVariants as k
use Rattle.grammar_theory.specs.Key.{same_kind}
use Rattle.es_grammar.specs.declared.rows.NodeKind.{NodeKind}
use Rattle.es_grammar.specs.declared.rows.NodeKind.TheVariants as l
use Rattle.es_ast.specs.declared.ts.leaf.Ident.{Ident}
use Rattle.es_ast.specs.declared.ts.leaf.Str.{Str}
use Rattle.es_ast.specs.declared.ts.leaf.TsEntityName.{TsEntityName}
use Rattle.es_ast.specs.declared.ts.leaf.TsThisTypeOrIdent.{TsThisTypeOrIdent}
use Rattle.es_ast.specs.declared.ts.leaf.TsThisTypeOrIdent.TheVariants as vThis
use Rattle.es_ast.specs.declared.ast.Decl.{Decl, roll-Decl}
use Rattle.es_ast.specs.declared.ast.Decl.TheVariants as vDecl
use Rattle.es_ast.specs.declared.ast.ModuleItem.{ModuleItem}
use Rattle.es_ast.specs.declared.ast.ClassMember.TheOpen.{Decl-F}
use Rattle.es_site.specs.Parts.{Whole}
use Rattle.es_lowering.specs.Value.{Value, nil, token, given, group, behind, turns, item_at}
use Rattle.es_lowering.specs.Texts.{ident_at, ident_of, span_of, str_of, this_or_name_of, token_at, token_of}
use Rattle.es_lowering.specs.Operators.{is_kind_at}
use Rattle.es_lowering.specs.Lowering.{packed, build}
use Rattle.es_lowering.specs.Lowering as lowering
use Rattle.es_lowering.specs.Modules as modules
use Rattle.es_lowering.specs.TypedStatements as typed_stmts
use Rattle.es_lowering.specs.TypedStatements.{Declarable, items_of}
use Rattle.es_syntax.specs.declared.entry.What.{What}
use Rattle.es_syntax.specs.declared.entry.What.TheVariants as vWhat
use Rattle.es_syntax.specs.declared.cursor.Item.{Item}
use Rattle.es_syntax.specs.Held.{held, made, node_of, parts_of, valued}
use Rattle.es_syntax.specs.Roles.{declarable_in, decl_in, entity_in}
use Rattle.es_changed.specs.declared.entry.Change.TheVariants as change
use Rattle.es_changed.specs.declared.entry.ChangedEntry.{ChangedEntry}
use Rattle.es_changed.specs.Shape.{closed, opened, Writes}
use Rattle.es_changed.proofs.Equations.{with_global, with_module, with_namespace}
use Rattle.es_changed.proofs.Written.{both_written, group_written, node_written}
use Rattle.es_view_statements.specs.decl.Declarable.{global_of, module_of, namespace_of}
use Rattle.dts_rules.specs.Rules.{Env, ShownDecl, ShownItem, State, after, flat, in_turn}
use Rattle.dts_rules.specs.Programs as programs
use Rattle.dts_rules.specs.Programs.{in_decl, shown_decl, shown_item}
use Rattle.dts_rules.proofs.Shown.{at_decl, beside_decl, with_item}
use Rattle.dts_draft.specs.declared.draft.Draft.{Draft}
use Rattle.dts_draft.specs.Drafts.{is_kind, state_of}
use Rattle.dts_draft.specs.Written.{IfThere, Puts}
use Rattle.dts_draft.proofs.Lists.{as_packed, read_turns}
use Rattle.dts_leaves.proofs.NumberLemmas.{token_span}
use Rattle.dts_enums.specs.Enums.{Declares}
use Rattle.dts_parts.specs.Params.{Made}
use Rattle.dts_items.specs.Items.{items_rule, ItemsPut}
use Rattle.dts_items.specs.Changed.{as_declared, items_in, FirstName}

-- ---- names
pub first_name : (x : List ℕ) (ts : List Token) (old mid new : List ChangedEntry) (at : ℕ)
    → Writes x ts old mid (node_of x ts l.Entity at (at + 1) (packed (token at ∷ [])) ∷ []) → Writes x ts mid new []
    → FirstName x ts old new at
first_name x ts old mid new at w g = record { writes = both_written x ts old mid new _ [] w g }

module _ (by : Env) (x : List ℕ) (ts : List Token) where
  left_is : (t : Token) → same_kind t.kind k.ThisWord ≡ false → this_or_name_of x t ≡ vThis.Ident (ident_of x t)
  unfolding this_or_name_of
  left_is t e = ap (λ (b : Bool). if b then vThis.This t.range else vThis.Ident (ident_of x t)) e

  outer_put : (old new : List ChangedEntry) (at : ℕ) (t : Token) (rest : List Ident) (r : Range)
      → slice_get ts at ≡ Some t
      → same_kind t.kind k.ThisWord ≡ false → FirstName x ts old new at
      → Puts x ts entity_in old new
      (programs.outer by (record { left = this_or_name_of x t; rest = rest; span = r }))
  unfolding build lowering.entity_of modules.entity ident_of
  outer_put old new at t rest r there e w = record {
    value = node_of x ts l.Entity at (at + 1) (packed (token at ∷ []));
    writes = w.writes;
    is = ap (λ (o : Option Token). given (option_map (this_or_name_of x) o) (λ left.
        Some (record { left = left; rest = []; span = span_of ts at (at + 1) }))) there
        ∙ (ap (λ (left : TsThisTypeOrIdent). Some (record { left = left; rest = []; span = span_of ts at (at + 1) }))
        (left_is t e)
        ∙ (ap Some (outer_is (span_of ts at (at + 1)) (token_span ts at t there))
        ∙ ap (λ (left : TsThisTypeOrIdent). Some (programs.outer by (record { left = left; rest = rest; span = r })))
        (sym (left_is t e))));
  }
    where
      outer_is : (q : Range) → q ≡ t.range
          → record { left = vThis.Ident (ident_of x t); rest = []; span = q }
          ≡ programs.outer by (record { left = vThis.Ident (ident_of x t); rest = rest; span = r })
      outer_is q e = ap (λ (q : Range). record { left = vThis.Ident (ident_of x t); rest = []; span = q }) e

  pub outer_made : (old new : List ChangedEntry) (at : ℕ) (p : Value) (r : Range) → token_at ts p 0 ≡ slice_get ts at
      → is_kind k.ThisWord (slice_get ts at) ≡ false → FirstName x ts old new at
      → IfThere (λ id. Puts x ts entity_in old new (programs.outer by id)) (modules.entity x ts r p)
  unfolding modules.entity
  outer_made old new at p r there e w =
      subst (λ (o : Option Token). IfThere P (entity_by o)) (sym there)
      (go (slice_get ts at) refl e (turns (λ turn. ident_at x ts turn 0) (group p 1)))
    where
      P : TsEntityName → Type 0
      P id = Puts x ts entity_in old new (programs.outer by id)

      entity_by : Option Token → Option TsEntityName
      entity_by o =
          given (option_map (this_or_name_of x) o) (λ left.
          given (turns (λ turn. ident_at x ts turn 0) (group p 1)) (λ rest.
          Some (record { left = left; rest = rest; span = r })))

      go : (o : Option Token) → slice_get ts at ≡ o → is_kind k.ThisWord o ≡ false → (names : Option (List Ident))
          → IfThere P (given (option_map (this_or_name_of x) o) (λ left.
          given names (λ rest. Some (record { left = left; rest = rest; span = r }))))
      go None is e names = record { is = tt }
      go (Some t) is e None = record { is = tt }
      go (Some t) is e (Some rest) = record { is = outer_put old new at t rest r is e w }

  pub outer_there : (old new : List ChangedEntry) (i : Item) (label : NodeKind) → i.what ≡ vWhat.Node label
      → label ≡ l.Entity
      → IfThere (λ id. Puts x ts entity_in old new (programs.outer by id))
      (modules.entity x ts (span_of ts i.from i.to) (held x ts i.parts.entries.now))
      → IfThere (λ id. Puts x ts entity_in old new (programs.outer by id)) (entity_in (valued x ts i))
  unfolding build lowering.entity_of
  outer_there old new i label is e h =
      subst (λ (w : What). IfThere (λ id. Puts x ts entity_in old new (programs.outer by id)) (entity_in
      (made x ts w i.from i.to (held x ts i.parts.entries.now) (parts_of x ts i.parts.entries.now))))
      (sym (is ∙ ap (λ (label : NodeKind). vWhat.Node label) e)) h

  -- ---- items that aren't on the top
  pub inside_made : (old grouped filled new : Draft) (spot : ℕ) (o : Option (List ModuleItem))
      → grouped.row ≡ old.row ++ opened → spot ≡ length old.row → state_of grouped ≡ state_of old
      → IfThere (ItemsPut x ts by false grouped filled) o
      → new.row ≡ closed (change.Old vWhat.Parts) 0 0 spot filled.row → state_of new ≡ state_of filled
      → IfThere (Made x ts items_in (items_rule by false) old new) o
  inside_made old grouped filled new spot None eo es sg h en sn = record { is = tt }
  inside_made old grouped filled new spot (Some them) eo es sg h en sn = record {
    is = record {
      state = sn ∙ (h.is.state ∙ ap (λ (s : State). (items_rule by false them s).1) sg);
      puts = record {
        value = packed h.is.puts.values;
        writes = group_written x ts 0 0 spot old.row grouped.row filled.row new.row h.is.puts.values eo es
            h.is.puts.writes en;
        is = ap items_of (as_packed h.is.puts.values)
            ∙ (read_turns (λ turn. item_at turn 0) h.is.puts.values (items_rule by false them (state_of grouped)).0
            h.is.puts.are
            ∙ ap (λ (s : State). Some (items_rule by false them s).0) sg);
      };
    };
  }

  -- ---- what the rules make of namespaces
  at : (it : Decl) (w : Whole Decl-F) → roll-Decl w ≡ it → shown_decl by it ≡ in_decl by (beside_decl by w)
  at it w rolls = ap (shown_decl by) (sym rolls) ∙ at_decl by w

  turned : (them : List ModuleItem) (s : State)
      → in_turn (λ (i : ModuleItem × ShownItem). i.1 false) (map (with_item by) them) s
      ≡ in_turn (λ (i : ModuleItem). shown_item by i false) them s
  turned [] s = refl
  turned (i ∷ them) s =
      ap (λ (q : List (List ModuleItem) × State). ((shown_item by i false s).0 ∷ q.0, q.1))
      (turned them (shown_item by i false s).1)

  inside_is : (them : List ModuleItem) (s : State)
      → programs.inside by (map (with_item by) them) s ≡ items_rule by false them s
  inside_is them s = ap (after (λ all. flat all)) (turned them s)

  inside_run : (old named filled new : Draft) → state_of named ≡ state_of old → state_of new ≡ state_of filled
      → (them : List ModuleItem) → Made x ts items_in (items_rule by false) named filled them
      → programs.inside by (map (with_item by) them) (state_of old)
      ≡ ((items_rule by false them (state_of named)).0, state_of new)
  inside_run old named filled new sn se them m =
      inside_is them (state_of old)
      ∙ (ap (items_rule by false them) (sym sn)
      ∙ ap (λ (s : State). ((items_rule by false them (state_of named)).0, s)) (sym (se ∙ m.state)))

  -- ---- namespaces
  pub namespace_made : (old begun worded named filled new : Draft) (place from to word : ℕ) (name body : Value)
      → begun.row ≡ old.row ++ opened → place ≡ length old.row → Writes x ts begun.row worded.row (token word ∷ [])
      → IfThere (λ id. Puts x ts entity_in worded.row named.row (programs.outer by id)) (entity_in name)
      → state_of named ≡ state_of old
      → IfThere (Made x ts items_in (items_rule by false) named filled) (items_of body)
      → new.row ≡ closed (change.Old (vWhat.Node l.NamespaceDeclaration)) from to place filled.row
      → state_of new ≡ state_of filled
      → IfThere (Declares x ts by old new (span_of ts from to)) (namespace_of (slice_get ts word) (entity_in name) body)
  unfolding namespace_of build lowering.declarable_of lowering.decl_of typed_stmts.namespace
  namespace_made old begun worded named filled new place from to word name body eo ep ww n sn g en se =
      go (option_map (λ t. t.kind) (slice_get ts word)) refl (entity_in name) n (items_of body) g
    where
      one : (kind : TokenKind) → option_map (λ t. t.kind) (slice_get ts word) ≡ Some kind → (id : TsEntityName)
          → Puts x ts entity_in worded.row named.row (programs.outer by id) → (them : List ModuleItem)
          → Made x ts items_in (items_rule by false) named filled them
          → Declares x ts by old new (span_of ts from to)
          (λ declare r. vDecl.TsNamespace declare (same_kind kind k.ModuleWord) id them r)
      one kind e id p them m =
          let v : Value = node_of x ts l.NamespaceDeclaration from to
          (packed (token word ∷ p.value ∷ m.puts.value ∷ [])) in
          let is_module : Bool = same_kind kind k.ModuleWord in
          let inner : List ModuleItem = (items_rule by false them (state_of named)).0 in
          let it : List ModuleItem → Declarable =
          λ items declare r. vDecl.TsNamespace declare is_module (programs.outer by id) items r in
          let is : declarable_in v ≡ Some (it inner) =
          ap (λ (o : Option TokenKind). given o (λ kind. given (entity_in p.value) (λ id.
          given (items_in m.puts.value) (λ body. Some (λ declare r.
          vDecl.TsNamespace declare (same_kind kind k.ModuleWord) id body r))))) e
          ∙ (ap (λ (o : Option TsEntityName). given o (λ id. given (items_in m.puts.value) (λ body. Some
          (λ declare r. vDecl.TsNamespace declare is_module id body r)))) p.is
          ∙ ap (λ (o : Option (List ModuleItem)). given o (λ body. Some
          (λ declare r. vDecl.TsNamespace declare is_module (programs.outer by id) body r))) m.puts.is) in
          record {
            value = v;
            writes = node_written x ts l.NamespaceDeclaration from to place old.row begun.row filled.row new.row
                (token word ∷ p.value ∷ m.puts.value ∷ []) eo ep
                (both_written x ts begun.row worded.row filled.row (token word ∷ []) (p.value ∷ m.puts.value ∷ []) ww
                (both_written x ts worded.row named.row filled.row (p.value ∷ []) (m.puts.value ∷ []) p.writes
                m.puts.writes)) en;
            it = it inner;
            is = is;
            decl = ap (as_declared false (span_of ts from to)) is;
            declared = λ declare top r.
                ap (λ (d : ShownDecl). d.declared top (state_of old))
                (at _ (Decl-F.TsNamespace declare is_module id them r)
                (vDecl.rolls-TsNamespace declare is_module id them r))
                ∙ ap (after (λ items. Some (it items top r))) (inside_run old named filled new sn se them m);
            defaulted = λ declare r.
                ap (λ (d : ShownDecl). d.defaulted (state_of old))
                (at _ (Decl-F.TsNamespace declare is_module id them r)
                (vDecl.rolls-TsNamespace declare is_module id them r))
                ∙ ap (after (λ items. it items declare r)) (inside_run old named filled new sn se them m);
            marked = λ declare again r.
                with_namespace again declare is_module (programs.outer by id) inner r;
          }

      go : (o : Option TokenKind) → option_map (λ t. t.kind) (slice_get ts word) ≡ o → (id : Option TsEntityName)
          → IfThere (λ id. Puts x ts entity_in worded.row named.row (programs.outer by id)) id
          → (them : Option (List ModuleItem))
          → IfThere (Made x ts items_in (items_rule by false) named filled) them
          → IfThere (Declares x ts by old new (span_of ts from to)) (given o (λ kind. given id (λ id.
          given them (λ body. Some (λ declare r.
          vDecl.TsNamespace declare (same_kind kind k.ModuleWord) id body r)))))
      go None e id n them g = record { is = tt }
      go (Some kind) e None n them g = record { is = tt }
      go (Some kind) e (Some id) n None g = record { is = tt }
      go (Some kind) e (Some id) n (Some them) g = record { is = one kind e id n.is them g.is }

  -- ---- modules
  pub module_made : (old begun named grouped filled closed_ new : Draft) (place spot from to : ℕ) (name body : Value)
      → begun.row ≡ old.row ++ opened → place ≡ length old.row → Writes x ts begun.row named.row (name ∷ [])
      → grouped.row ≡ named.row ++ opened → spot ≡ length named.row → state_of grouped ≡ state_of old
      → IfThere (Made x ts items_in (items_rule by false) grouped filled) (items_of body)
      → closed_.row ≡ closed (change.Old vWhat.Parts) 0 0 spot filled.row
      → new.row ≡ closed (change.Old (vWhat.Node l.ModuleDeclaration)) from to place closed_.row
      → state_of new ≡ state_of filled
      → IfThere (Declares x ts by old new (span_of ts from to)) (module_of x ts name body)
  unfolding module_of build lowering.declarable_of lowering.decl_of typed_stmts.module_namespace
  module_made old begun named grouped filled closed_ new place spot from to name body eo ep wn eg es sg g ec en se =
      go (option_map (str_of x) (token_of ts name)) refl (items_of body) g
    where
      has_body : Bool
      has_body = is_kind_at ts k.OpenBrace (behind name)

      one : (id : Str) → option_map (str_of x) (token_of ts name) ≡ Some id → (them : List ModuleItem)
          → Made x ts items_in (items_rule by false) grouped filled them
          → Declares x ts by old new (span_of ts from to)
          (λ declare r. vDecl.TsModule declare id has_body them r)
      one id e them m =
          let v : Value = node_of x ts l.ModuleDeclaration from to
          (packed (name ∷ packed (m.puts.value ∷ []) ∷ [])) in
          let inner : List ModuleItem = (items_rule by false them (state_of grouped)).0 in
          let it : List ModuleItem → Declarable = λ items declare r. vDecl.TsModule declare id has_body items r in
          let is : declarable_in v ≡ Some (it inner) =
          ap (λ (o : Option Str). given o (λ id. given (items_in m.puts.value) (λ body. Some (λ declare r.
          vDecl.TsModule declare id has_body body r)))) e
          ∙ ap (λ (o : Option (List ModuleItem)). given o (λ body. Some (λ declare r.
          vDecl.TsModule declare id has_body body r))) m.puts.is in
          record {
            value = v;
            writes = node_written x ts l.ModuleDeclaration from to place old.row begun.row closed_.row new.row
                (name ∷ packed (m.puts.value ∷ []) ∷ []) eo ep
                (both_written x ts begun.row named.row closed_.row (name ∷ []) (packed (m.puts.value ∷ []) ∷ []) wn
                (group_written x ts 0 0 spot named.row grouped.row filled.row closed_.row (m.puts.value ∷ []) eg es
                m.puts.writes ec)) en;
            it = it inner;
            is = is;
            decl = ap (as_declared false (span_of ts from to)) is;
            declared = λ declare top r.
                ap (λ (d : ShownDecl). d.declared top (state_of old))
                (at _ (Decl-F.TsModule declare id has_body them r) (vDecl.rolls-TsModule declare id has_body them r))
                ∙ ap (after (λ items. Some (it items top r))) (inside_run old grouped filled new sg se them m);
            defaulted = λ declare r.
                ap (λ (d : ShownDecl). d.defaulted (state_of old))
                (at _ (Decl-F.TsModule declare id has_body them r) (vDecl.rolls-TsModule declare id has_body them r))
                ∙ ap (after (λ items. it items declare r)) (inside_run old grouped filled new sg se them m);
            marked = λ declare again r. with_module again declare id has_body inner r;
          }

      go : (o : Option Str) → option_map (str_of x) (token_of ts name) ≡ o → (them : Option (List ModuleItem))
          → IfThere (Made x ts items_in (items_rule by false) grouped filled) them
          → IfThere (Declares x ts by old new (span_of ts from to)) (given o (λ id. given them (λ body. Some
          (λ declare r. vDecl.TsModule declare id has_body body r))))
      go None e them g = record { is = tt }
      go (Some id) e None g = record { is = tt }
      go (Some id) e (Some them) g = record { is = one id e them g.is }

  -- without items it is as it was
  pub module_kept : (old new : Draft) (span : Range) (v name body : Value) → declarable_in v ≡ module_of x ts name body
      → body ≡ nil → decl_in v ≡ as_declared false span (declarable_in v) → Writes x ts old.row new.row (v ∷ [])
      → state_of new ≡ state_of old → IfThere (Declares x ts by old new span) (declarable_in v)
  unfolding module_of
  module_kept old new span v name body is eb link w sn =
      subst (λ (o : Option Declarable). IfThere (Declares x ts by old new span) o) (sym known)
      (go (option_map (str_of x) (token_of ts name)) known)
    where
      has_body : Bool
      has_body = is_kind_at ts k.OpenBrace (behind name)

      module_by : Option Str → Option Declarable
      module_by o = given o (λ id. Some (λ declare r. vDecl.TsModule declare id has_body [] r))

      known : declarable_in v ≡ module_by (option_map (str_of x) (token_of ts name))
      known = is ∙ ap (module_of x ts name) eb

      go : (o : Option Str) → declarable_in v ≡ module_by o
          → IfThere (Declares x ts by old new span) (module_by o)
      go None e = record { is = tt }
      go (Some id) e = record {
        is = record {
          value = v;
          writes = w;
          it = λ declare r. vDecl.TsModule declare id has_body [] r;
          is = e;
          decl = link ∙ ap (as_declared false span) e;
          declared = λ declare top r.
              ap (λ (d : ShownDecl). d.declared top (state_of old))
              (at _ (Decl-F.TsModule declare id has_body [] r) (vDecl.rolls-TsModule declare id has_body [] r))
              ∙ ap (λ (s : State). (Some (vDecl.TsModule top id has_body [] r), s)) (sym sn);
          defaulted = λ declare r.
              ap (λ (d : ShownDecl). d.defaulted (state_of old))
              (at _ (Decl-F.TsModule declare id has_body [] r) (vDecl.rolls-TsModule declare id has_body [] r))
              ∙ ap (λ (s : State). (vDecl.TsModule declare id has_body [] r, s)) (sym sn);
          marked = λ declare again r. with_module again declare id has_body [] r;
        };
      }

  -- ---- `global`
  pub global_made : (old begun filled new : Draft) (place from to : ℕ) (body : Value)
      → begun.row ≡ old.row ++ opened → place ≡ length old.row → state_of begun ≡ state_of old
      → IfThere (Made x ts items_in (items_rule by false) begun filled) (items_of body)
      → new.row ≡ closed (change.Old (vWhat.Node l.GlobalDeclaration)) from to place filled.row
      → state_of new ≡ state_of filled
      → IfThere (Declares x ts by old new (span_of ts from to)) (global_of body)
  unfolding global_of build lowering.declarable_of lowering.decl_of typed_stmts.global
  global_made old begun filled new place from to body eo ep sb g en se = go (items_of body) g
    where
      one : (them : List ModuleItem) → Made x ts items_in (items_rule by false) begun filled them
          → Declares x ts by old new (span_of ts from to) (λ declare r. vDecl.TsGlobal declare them r)
      one them m =
          let v : Value = node_of x ts l.GlobalDeclaration from to (packed (m.puts.value ∷ [])) in
          let inner : List ModuleItem = (items_rule by false them (state_of begun)).0 in
          let it : List ModuleItem → Declarable = λ items declare r. vDecl.TsGlobal declare items r in
          let is : declarable_in v ≡ Some (it inner) =
          ap (option_map (λ body declare r. vDecl.TsGlobal declare body r)) m.puts.is in
          record {
            value = v;
            writes = node_written x ts l.GlobalDeclaration from to place old.row begun.row filled.row new.row
                (m.puts.value ∷ []) eo ep m.puts.writes en;
            it = it inner;
            is = is;
            decl = ap (as_declared false (span_of ts from to)) is;
            declared = λ declare top r.
                ap (λ (d : ShownDecl). d.declared top (state_of old))
                (at _ (Decl-F.TsGlobal declare them r) (vDecl.rolls-TsGlobal declare them r))
                ∙ ap (after (λ items. Some (it items top r))) (inside_run old begun filled new sb se them m);
            defaulted = λ declare r.
                ap (λ (d : ShownDecl). d.defaulted (state_of old))
                (at _ (Decl-F.TsGlobal declare them r) (vDecl.rolls-TsGlobal declare them r))
                ∙ ap (after (λ items. it items declare r)) (inside_run old begun filled new sb se them m);
            marked = λ declare again r. with_global again declare inner r;
          }

      go : (o : Option (List ModuleItem))
          → IfThere (Made x ts items_in (items_rule by false) begun filled) o
          → IfThere (Declares x ts by old new (span_of ts from to))
          (option_map (λ body declare r. vDecl.TsGlobal declare body r) o)
      go None g = record { is = tt }
      go (Some them) g = record { is = one them g.is }
