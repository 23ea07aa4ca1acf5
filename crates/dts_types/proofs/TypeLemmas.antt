-- What is written of an expression, from what its node shows.
use Rattle.std.specs.Prelude.{ℕ, ◌+◌, ◌||◌, Bool, true, false, List, [], ◌∷◌, ◌++◌, length, take, Option, Some, None, option_map, map, if◌then◌else◌, IfSome}
use Rattle.std.proofs.Common.{◌≡◌, refl, sym, ap, subst, ◌∙◌}
use Rattle.std.proofs.lemmas.Bool.{true≢false}
use Rattle.base.specs.declared.range.Range.{Range}
use Rattle.es_token.specs.declared.token.Token.{Token}
use Rattle.es_grammar.specs.declared.rows.NodeKind.{NodeKind}
use Rattle.es_ast.specs.declared.ts.ts.TsType.{TsType}
use Rattle.es_ast.specs.declared.ast.Expr.{Expr}
use Rattle.es_lowering.specs.Value.{Value}
use Rattle.es_lowering.specs.Lowering.{build, expr_of}
use Rattle.es_lowering.specs.Texts.{span_of}
use Rattle.es_syntax.specs.declared.entry.What.{What}
use Rattle.es_syntax.specs.declared.entry.What.TheVariants as vWhat
use Rattle.es_syntax.specs.declared.entry.Lean.{Lean}
use Rattle.es_syntax.specs.declared.cursor.Item.{Item}
use Rattle.es_syntax.specs.Held.{held, valued, made, parts_of}
use Rattle.es_syntax.specs.Roles.{expr_in, ts_type_in}
use Rattle.es_syntax.specs.Views.{is_one_of}
use Rattle.es_changed.specs.declared.entry.Word.TheVariants as word
use Rattle.es_changed.specs.declared.entry.ChangedEntry.{ChangedEntry}
use Rattle.es_changed.specs.Formed.{word_type}
use Rattle.es_changed.specs.Changed.{type_node}
use Rattle.es_changed.specs.Shape.{Writes}
use Rattle.es_changed.proofs.Written.{nothing_written, both_written}
use Rattle.dts_rules.specs.declared.found.FoundKind.{FoundKind}
use Rattle.dts_rules.specs.Made.{any_type}
use Rattle.dts_rules.specs.Rules as rules
use Rattle.dts_rules.specs.Rules.{State, after, if_frozen, note, or_any}
use Rattle.dts_rules.specs.Programs.{shown_expr}
use Rattle.dts_draft.specs.declared.draft.Draft.{Draft}
use Rattle.dts_draft.specs.Drafts.{state_of}
use Rattle.dts_draft.specs.Written.{IfThere, Puts, Gives}
use Rattle.dts_draft.proofs.There.{lifted, same}
use Rattle.dts_leaves.specs.Leaves.{HasType}
use Rattle.dts_kept.specs.Kept.{kept_of, IsKept}
use Rattle.dts_operands.specs.Sources.{HasIt}
use Rattle.dts_types.specs.declared.ask.Ask.{Ask}
use Rattle.dts_operands.specs.Labels.{typing, freezing}
use Rattle.dts_types.specs.Types.{by_frozen, asked, Answers, Infers, OrAny}
use Rattle.dts_operands.proofs.Forms.{untyped_forms, unfrozen_forms}

module _ (x : List ℕ) (ts : List Token) where
  pub answers_given : (old new : Draft) (wrote : Bool) (ty : Option TsType) (s : State) → state_of new ≡ s
      → Gives x ts ts_type_in old.row new.row wrote ty → Answers x ts old new wrote (ty, s)
  answers_given old new wrote (Some ty) s e g = (g.0, e, g.1)
  answers_given old new wrote None s e g = (g.0, e, g.1)

  -- nothing is written, and nothing found
  pub answers_none : (old : Draft) (t : Option TsType × State) → t ≡ (None, state_of old) → Answers x ts old old false t
  answers_none old t e = subst (Answers x ts old old false) (sym e) (refl, refl, nothing_written x ts old.row)

module _ (env : rules.Env) (x : List ℕ) (ts : List Token) where
  -- ---- leaves
  pub leaf_infers : (ask : Ask) (old new : Draft) (wrote : Bool) (o : Option Expr) → ask.frozen ≡ false
      → state_of new ≡ state_of old → IfThere (HasType env x ts ask.literal wrote old.row new.row) o
      → IfThere (Infers x ts env ask old new wrote) o
  leaf_infers ask old new wrote o fr sn h =
      lifted (λ e k. subst (Answers x ts old new wrote)
      (sym (ap (λ (b : Bool). by_frozen b ((shown_expr env e).rule ask.literal ask.readonly (state_of old))) fr
      ∙ k.rule ask.readonly (state_of old)))
      (answers_given x ts old new wrote k.ty (state_of old) sn k.gives)) h

  pub no_rule : (ask : Ask) (old : Draft) (e : Expr)
      → ((c r : Bool) (s : State) → (shown_expr env e).rule c r s ≡ (None, s)) → Infers x ts env ask old old false e
  no_rule ask old e h =
      answers_none x ts old (asked env ask e (state_of old))
      (ap (by_frozen ask.frozen) (h ask.literal ask.readonly (state_of old)) ∙ go ask.frozen)
    where
      go : (b : Bool) → by_frozen b (None, state_of old) ≡ (None, state_of old)
      go true = refl
      go false = refl

  pub untyped_there : (ask : Ask) (old : Draft) (o : Option Expr)
      → IfThere (λ e. (c r : Bool) (s : State) → (shown_expr env e).rule c r s ≡ (None, s)) o
      → IfThere (Infers x ts env ask old old false) o
  untyped_there ask old o h = lifted (λ e k. no_rule ask old e k) h

  unfrozen_there : (ask : Ask) (old : Draft) (o : Option Expr) → ask.frozen ≡ true
      → IfThere (λ e. (c r : Bool) (s : State) → after if_frozen ((shown_expr env e).rule c r s) ≡ (None, s)) o
      → IfThere (Infers x ts env ask old old false) o
  unfrozen_there ask old o fr h =
      lifted (λ e k. answers_none x ts old (asked env ask e (state_of old))
      (ap (λ (b : Bool). by_frozen b ((shown_expr env e).rule ask.literal ask.readonly (state_of old))) fr
      ∙ k ask.literal ask.readonly (state_of old))) h

  -- ---- nodes by their alternatives
  at_place : (P : Expr → Type 0) (i : Item) (w : What) → i.what ≡ w
      → IfThere P (expr_in
      (made x ts w i.from i.to (held x ts i.parts.entries.now) (parts_of x ts i.parts.entries.now)))
      → IfThere P (expr_in (valued x ts i))
  at_place P i w is h =
      let Q : What → Type 0 = λ w.
      IfThere P (expr_in (made x ts w i.from i.to (held x ts i.parts.entries.now)
      (parts_of x ts i.parts.entries.now))) in
      subst Q (sym is) h

  pub untyped_at : (ask : Ask) (old : Draft) (i : Item) (label : NodeKind) → i.what ≡ vWhat.Node label
      → is_one_of typing label ≡ false → IfThere (Infers x ts env ask old old false) (expr_in (valued x ts i))
  unfolding build
  untyped_at ask old i label is h =
      untyped_there ask old _ (at_place _ i (vWhat.Node label) is
      (untyped_forms env x ts label i.from (span_of ts i.from i.to) i.parts.entries.now h))

  pub unfrozen_at : (ask : Ask) (old : Draft) (i : Item) (label : NodeKind) → i.what ≡ vWhat.Node label
      → is_one_of freezing label ≡ false → ask.frozen ≡ true
      → IfThere (Infers x ts env ask old old false) (expr_in (valued x ts i))
  unfolding build
  unfrozen_at ask old i label is h fr =
      unfrozen_there ask old _ fr (at_place _ i (vWhat.Node label) is
      (unfrozen_forms env x ts label i.from (span_of ts i.from i.to) i.parts.entries.now h))

  -- ---- a type, or `any`
  pub or_typed : (kind : FoundKind) (range : Range) (ask : Ask) (old new : Draft) (wrote : Bool) (o : Option Expr)
      → ask.frozen ≡ false → wrote ≡ true → IfThere (Infers x ts env ask old new wrote) o
      → IfThere (OrAny x ts env kind range ask old new) o
  or_typed kind range ask old new wrote o fr w h =
      lifted (λ e k. go e ((shown_expr env e).rule ask.literal ask.readonly (state_of old)) refl
      (subst (Answers x ts old new wrote)
      (ap (λ (b : Bool). by_frozen b ((shown_expr env e).rule ask.literal ask.readonly (state_of old))) fr) k)) h
    where
      go : (e : Expr) (t : Option TsType × State)
          → (shown_expr env e).rule ask.literal ask.readonly (state_of old) ≡ t → Answers x ts old new wrote t
          → OrAny x ts env kind range ask old new e
      go e (Some ty, s) is a = record {
        state = a.1 ∙ ap (λ (p : Option TsType × State). (or_any kind range p).1) (sym is);
        puts = subst (Puts x ts ts_type_in old.row new.row)
            (ap (λ (p : Option TsType × State). (or_any kind range p).0) (sym is)) a.2;
      }
      go e (None, s) is a = absurd (true≢false (sym w ∙ a.0))

  pub or_any_there : (kind : FoundKind) (range : Range) (ask : Ask) (old mid noted new : Draft) (wrote : Bool)
      (o : Option Expr) → ask.frozen ≡ false → wrote ≡ false → IfThere (Infers x ts env ask old mid wrote) o
      → noted.row ≡ mid.row → state_of noted ≡ note kind range (state_of mid)
      → Writes x ts noted.row new.row (type_node 0 0 (Some (word_type word.Any)) ∷ []) → state_of new ≡ state_of noted
      → IfThere (OrAny x ts env kind range ask old new) o
  or_any_there kind range ask old mid noted new wrote o fr w h rn nn v sn =
      lifted (λ e k. go e ((shown_expr env e).rule ask.literal ask.readonly (state_of old)) refl
      (subst (Answers x ts old mid wrote)
      (ap (λ (b : Bool). by_frozen b ((shown_expr env e).rule ask.literal ask.readonly (state_of old))) fr) k)) h
    where
      go : (e : Expr) (t : Option TsType × State)
          → (shown_expr env e).rule ask.literal ask.readonly (state_of old) ≡ t → Answers x ts old mid wrote t
          → OrAny x ts env kind range ask old new e
      go e (Some ty, s) is a = absurd (true≢false (sym a.0 ∙ w))
      go e (None, s) is a = record {
        state = sn ∙ (nn ∙ (ap (note kind range) a.1
            ∙ ap (λ (p : Option TsType × State). (or_any kind range p).1) (sym is)));
        puts = subst (Puts x ts ts_type_in old.row new.row)
            (ap (λ (p : Option TsType × State). (or_any kind range p).0) (sym is)) (record {
              value = type_node 0 0 (Some (word_type word.Any));
              writes = both_written x ts old.row noted.row new.row [] _
                  (subst (λ (row : List ChangedEntry). Writes x ts old.row row []) (sym rn) a.2) v;
              is = refl;
            });
      }

  -- ---- by what decides it
  pub operand_infers : (ask : Ask) (old new : Draft) (wrote b : Bool) (operand e : Expr) (o : Option Expr)
      → o ≡ Some operand
      → ((c r : Bool) (s : State) → (shown_expr env e).rule c r s ≡ (shown_expr env operand).rule (b || c) (b || r) s)
      → IfThere (Infers x ts env
      (record { literal = b || ask.literal; readonly = b || ask.readonly; frozen = ask.frozen })
      old new wrote) o
      → Infers x ts env ask old new wrote e
  operand_infers ask old new wrote b operand e o is d h =
      subst (Answers x ts old new wrote) (sym (ap (by_frozen ask.frozen) (d ask.literal ask.readonly (state_of old))))
      (there (subst (λ (o : Option Expr). IfThere (Infers x ts env
      (record { literal = b || ask.literal; readonly = b || ask.readonly; frozen = ask.frozen }) old new wrote) o) is
      h))
    where
      there : IfThere (Infers x ts env
          (record { literal = b || ask.literal; readonly = b || ask.readonly; frozen = ask.frozen }) old new wrote)
          (Some operand)
          → Answers x ts old new wrote (by_frozen ask.frozen
          ((shown_expr env operand).rule (b || ask.literal) (b || ask.readonly) (state_of old)))
      there h = h.is

  kept_by : (b : Bool) (ty : TsType) (s : State) → by_frozen b (Some ty, s) ≡ (kept_of b ty, s)
  kept_by true ty s = refl
  kept_by false ty s = refl

  pub type_infers : (ask : Ask) (old new : Draft) (wrote : Bool) (e : Expr) (ty : Item) → HasIt env x ts ty e
      → state_of new ≡ state_of old
      → IfThere (IsKept x ts old.row new.row wrote ask.frozen) (ts_type_in (valued x ts ty))
      → Infers x ts env ask old new wrote e
  type_infers ask old new wrote e ty d sn h =
      subst (Answers x ts old new wrote)
      (sym (ap (by_frozen ask.frozen) (d.rule ask.literal ask.readonly (state_of old))
      ∙ kept_by ask.frozen d.it (state_of old)))
      (answers_given x ts old new wrote (kept_of ask.frozen d.it) (state_of old) sn
      (there (subst (λ (o : Option TsType). IfThere (IsKept x ts old.row new.row wrote ask.frozen) o) d.there h)))
    where
      there : IfThere (IsKept x ts old.row new.row wrote ask.frozen) (Some d.it)
          → Gives x ts ts_type_in old.row new.row wrote (kept_of ask.frozen d.it)
      there h = h.is
