-- What further parts make of a name.
use Rattle.std.specs.Prelude.{ℕ, zero, suc, ◌==◌, Bool, true, false, not, ◌||◌, List, [], ◌∷◌, ◌++◌, Option, Some, None, option_map, is_some, if◌then◌else◌, slice_get}
use Rattle.std.proofs.lemmas.Bool.Decides.{nat_tests}
use Rattle.std.proofs.Common.{arith, ◌≡◌, refl, sym, ap, subst, ◌∙◌}
use Rattle.std.proofs.lemmas.Bool.{true≢false}
use Rattle.std.proofs.lemmas.List.{append-nil, append_assoc}
use Rattle.std.specs.Prelude.{◌≢◌}
use Rattle.base.specs.declared.range.Range.{Range}
use Rattle.es_token.specs.declared.token.Token.{Token}
use Rattle.es_token.specs.declared.token.TokenKind.TheVariants as k
use Rattle.grammar_theory.specs.Key.{same_kind}
use Rattle.es_ast.specs.declared.ts.leaf.Ident.{Ident}
use Rattle.es_ast.specs.declared.ts.leaf.TsEntityName.{TsEntityName}
use Rattle.es_ast.specs.declared.ts.leaf.TsThisTypeOrIdent.{TsThisTypeOrIdent}
use Rattle.es_ast.specs.declared.ts.ts.TsPart.{TsPart}
use Rattle.es_ast.specs.declared.ts.ts.TsPart.TheVariants as vPart
use Rattle.es_ast.specs.declared.ast.Expr.{Expr, roll-Expr}
use Rattle.es_ast.specs.declared.ast.Expr.TheVariants as vExpr
use Rattle.es_ast.specs.declared.ast.ClassMember.TheOpen.{Expr-F}
use Rattle.es_site.specs.Parts.{Whole}
use Rattle.es_lowering.specs.Value.{Value, absent, nil, more, token, node, given, part, as_group, typed, optional, turns, args_at, post_at, arguments_at}
use Rattle.es_lowering.specs.Texts.{span_of, end_before, end_of, start_of, ident_of, private_of, property_of, token_of}
use Rattle.es_lowering.specs.Expressions.{Post, optional_inner, member_of, index_of, call_of, tagged_of, chained}
use Rattle.es_lowering.specs.TypedParts.{args_part_at}
use Rattle.es_lowering.specs.TypedExpressions.{typed_optional_inner, typed_call_of, typed_tagged_of, non_null_of, typed_call}
use Rattle.es_changed.specs.declared.entry.ChangedEntry.{ChangedEntry}
use Rattle.es_changed.specs.Shape.{Writes}
use Rattle.es_changed.proofs.Written.{nothing_written, both_written}
use Rattle.es_view_expressions.specs.call.Post as view
use Rattle.dts_rules.specs.Rules.{Env, Shown, in_expr, longer, entity_key}
use Rattle.dts_rules.specs.Programs.{shown_expr}
use Rattle.dts_rules.proofs.Shown.{beside_expr}
use Rattle.dts_draft.specs.Drafts.{is_kind}
use Rattle.dts_draft.specs.Written.{IfThere, PutsAll}
use Rattle.dts_draft.proofs.There.{made, given_any}
use Rattle.dts_draft.proofs.Lists.{puts_none, puts_both}
use Rattle.dts_leaves.proofs.Shown.{shown_by}
use Rattle.dts_keys.specs.Keys.{entity_from, IsAny, IsItsName, Has, Goes, GoesOn, Chained, posts_of, name_in}

same_number : (a b : ℕ) → (a == b) ≡ true → a ≡ b
same_number a b e = grind (arith, nat_tests)

-- a node ends where the token before its last one does
abbrev end_in : Range → ℕ
end_in r = r.end

pub span_end : (ts : List Token) (from to : ℕ) → (span_of ts from to).end ≡ end_before ts to
unfolding span_of
span_end ts from to = go (from == to) refl
  where
    go : (b : Bool) → (from == to) ≡ b
        → end_in (if b then record { start = end_before ts from; end = end_before ts from }
        else record { start = start_of (slice_get ts from); end = end_before ts to }) ≡ end_before ts to
    go true e = ap (end_before ts) (same_number from to e)
    go false e = refl

module _ (env : Env) where
  entity_by : (it : Expr) (w : Whole Expr-F) → roll-Expr w ≡ it
      → (shown_expr env it).entity ≡ (in_expr env (beside_expr env w)).entity
  entity_by it w rolls = ap (λ (s : Shown). s.entity) (shown_by env it w rolls)

  -- an expression is that key of a type which its name is
  keys_by : (it : Expr) (w : Whole Expr-F) → roll-Expr w ≡ it
      → (in_expr env (beside_expr env w)).type_key
      ≡ option_map (entity_key env) (in_expr env (beside_expr env w)).entity
      → IsItsName env it
  keys_by it w rolls e =
      subst (λ (s : Shown). s.type_key ≡ option_map (entity_key env) s.entity) (sym (shown_by env it w rolls)) e

  -- one that is none
  abbrev NoName : Expr → Type 0
  NoName e = ((shown_expr env e).entity ≡ None) × IsItsName env e

  no_name : (it : Expr) (w : Whole Expr-F) → roll-Expr w ≡ it → (in_expr env (beside_expr env w)).entity ≡ None
      → (in_expr env (beside_expr env w)).type_key
      ≡ option_map (entity_key env) (in_expr env (beside_expr env w)).entity
      → NoName it
  no_name it w rolls e k = (entity_by it w rolls ∙ e, keys_by it w rolls k)

  dot_key : (obj : Expr) (name : Ident) (span : Range) → IsItsName env (vExpr.Member obj false false name span)
  dot_key obj name span =
      keys_by _ (Expr-F.Member obj false false name span) (vExpr.rolls-Member obj false false name span) refl

  dot_entity : (obj : Expr) (name : Ident) (span : Range)
      → (shown_expr env (vExpr.Member obj false false name span)).entity
      ≡ option_map (longer env span name) (shown_expr env obj).entity
  dot_entity obj name span =
      entity_by _ (Expr-F.Member obj false false name span) (vExpr.rolls-Member obj false false name span)

  mark_entity : (obj : Expr) (hidden : Bool) (name : Ident) (span : Range)
      → NoName (vExpr.Member obj true hidden name span)
  mark_entity obj hidden name span =
      no_name _ (Expr-F.Member obj true hidden name span) (vExpr.rolls-Member obj true hidden name span) refl refl

  hidden_entity : (obj : Expr) (name : Ident) (span : Range)
      → NoName (vExpr.Member obj false true name span)
  hidden_entity obj name span =
      no_name _ (Expr-F.Member obj false true name span) (vExpr.rolls-Member obj false true name span) refl refl

  index_entity : (obj : Expr) (mark : Bool) (e : Expr) (span : Range)
      → NoName (vExpr.Index obj mark e span)
  index_entity obj mark e span = no_name _ (Expr-F.Index obj mark e span) (vExpr.rolls-Index obj mark e span) refl refl

  call_entity : (obj : Expr) (mark : Bool) (ty : Option TsPart) (args : List Expr) (span : Range)
      → NoName (vExpr.Call obj mark ty args span)
  call_entity obj mark ty args span =
      no_name _ (Expr-F.Call obj mark ty args span) (vExpr.rolls-Call obj mark ty args span) refl refl

  tagged_entity : (obj : Expr) (ty : Option TsPart) (tpl : Expr) (span : Range)
      → NoName (vExpr.TaggedTpl obj ty tpl span)
  tagged_entity obj ty tpl span =
      no_name _ (Expr-F.TaggedTpl obj ty tpl span) (vExpr.rolls-TaggedTpl obj ty tpl span) refl refl

  non_null_entity : (obj : Expr) (span : Range)
      → NoName (vExpr.TsNonNull obj span)
  non_null_entity obj span = no_name _ (Expr-F.TsNonNull obj span) (vExpr.rolls-TsNonNull obj span) refl refl

  module _ (x : List ℕ) (ts : List Token) where
    -- ---- a part that makes no name
    ends : (named : Bool) (old : List ChangedEntry) (post : Post)
        → ((start : ℕ) (obj : Expr) → NoName (post start obj))
        → Goes env x ts named old old None post
    ends named old post n_ = record {
      names = [];
      puts = puts_none x ts (name_in env x ts) old;
      is = λ start left rest span obj h. (n_ start obj).0;
      key = λ start obj. (n_ start obj).1;
    }

    pub index_ends : {old : List ChangedEntry} {named : Bool} (r : Range) (o : Option Expr)
        → IfThere (Goes env x ts named old old None) (view.index r o)
    unfolding view.index
    index_ends {old = old} {named = named} r o =
        made (Goes env x ts named old old None) (index_of false r) o
        (λ e. ends named old (index_of false r e) (λ start obj. index_entity obj false e _))

    pub call_ends : {old : List ChangedEntry} {named : Bool} (r : Range) (o : Option (List Expr))
        → IfThere (Goes env x ts named old old None) (view.call r o)
    unfolding view.call
    call_ends {old = old} {named = named} r o =
        made (Goes env x ts named old old None) (call_of false r) o
        (λ args. ends named old (call_of false r args) (λ start obj. call_entity obj false None args _))

    pub tagged_ends : {old : List ChangedEntry} {named : Bool} (r : Range) (o : Option Expr)
        → IfThere (Goes env x ts named old old None) (view.tagged r o)
    unfolding view.tagged
    tagged_ends {old = old} {named = named} r o =
        made (Goes env x ts named old old None) (tagged_of r) o
        (λ tpl. ends named old (tagged_of r tpl) (λ start obj. tagged_entity obj None tpl _))

    typed_call_made : (named : Bool) (old : List ChangedEntry) (mark : Bool) (r : Range) (ty : Option (Option TsPart))
        (o : Option (List Expr)) → IfThere (Goes env x ts named old old None)
        (given ty (λ ty. given o (λ args. Some (typed_call_of mark r ty args))))
    typed_call_made named old mark r ty o =
        given_any (Goes env x ts named old old None) ty _ (λ ty.
        given_any (Goes env x ts named old old None) o _ (λ args. record {
          is = ends named old (typed_call_of mark r ty args) (λ start obj. call_entity obj mark ty args _);
        }))

    pub typed_call_ends : {old : List ChangedEntry} {named : Bool} (r : Range) (v : Value) (o : Option (List Expr))
        → IfThere (Goes env x ts named old old None) (view.typed_call r v o)
    unfolding view.typed_call
    typed_call_ends {old = old} {named = named} r v o =
        typed_call_made named old false r
        (option_map (λ args. option_map vPart.TypeArgs args) (optional arguments_at v)) o

    pub typed_tagged_ends : {old : List ChangedEntry} {named : Bool} (r : Range) (v : Value) (o : Option Expr)
        → IfThere (Goes env x ts named old old None) (view.typed_tagged r v o)
    unfolding view.typed_tagged
    typed_tagged_ends {old = old} {named = named} r v o =
        given_any (Goes env x ts named old old None)
        (option_map (λ args. option_map vPart.TypeArgs args) (optional arguments_at v)) _ (λ ty.
        made (Goes env x ts named old old None) (typed_tagged_of r ty) o
        (λ tpl. ends named old (typed_tagged_of r ty tpl) (λ start obj. tagged_entity obj ty tpl _)))

    pub non_null_ends : {old : List ChangedEntry} {named : Bool} (r : Range)
        → IfThere (Goes env x ts named old old None) (Some (non_null_of r))
    non_null_ends {old = old} {named = named} r = record {
      is = ends named old (non_null_of r) (λ start obj. non_null_entity obj _);
    }

    -- behind `?.`
    marked_ends : (named : Bool) (old : List ChangedEntry) (r : Range) (o : Option (Bool × Ident))
        → IfThere (Goes env x ts named old old None) (option_map (member_of true r) o)
    marked_ends named old r o =
        made (Goes env x ts named old old None) (member_of true r) o
        (λ m. ends named old (member_of true r m) (λ start obj. mark_entity obj m.0 m.1 _))

    called_ends : (named : Bool) (old : List ChangedEntry) (r : Range) (o : Option (List Expr))
        → IfThere (Goes env x ts named old old None) (option_map (call_of true r) o)
    called_ends named old r o =
        made (Goes env x ts named old old None) (call_of true r) o
        (λ args. ends named old (call_of true r args) (λ start obj. call_entity obj true None args _))

    indexed_ends : (named : Bool) (old : List ChangedEntry) (r : Range) (o : Option Expr)
        → IfThere (Goes env x ts named old old None) (option_map (index_of true r) o)
    indexed_ends named old r o =
        made (Goes env x ts named old old None) (index_of true r) o
        (λ e. ends named old (index_of true r e) (λ start obj. index_entity obj true e _))

    inner_ends : (named : Bool) (old : List ChangedEntry) (r : Range) (v : Value)
        → IfThere (Goes env x ts named old old None) (optional_inner x ts r v)
    inner_ends named old r (token n) = marked_ends named old r (given (slice_get ts n) (property_of x))
    inner_ends named old r absent = called_ends named old r None
    inner_ends named old r nil = called_ends named old r None
    inner_ends named old r (more v vs) = called_ends named old r None
    inner_ends named old r (node from to m) = called_ends named old r m.args

    pub optional_ends : {old : List ChangedEntry} {named : Bool} (r : Range) (v : Value)
        → IfThere (Goes env x ts named old old None) (view.optioned x ts r v)
    unfolding view.optioned
    optional_ends {old = old} {named = named} r (node from to m) = indexed_ends named old r m.expr
    optional_ends {old = old} {named = named} r absent = inner_ends named old r absent
    optional_ends {old = old} {named = named} r nil = inner_ends named old r absent
    optional_ends {old = old} {named = named} r (token n) = inner_ends named old r absent
    optional_ends {old = old} {named = named} r (more v vs) = inner_ends named old r v

    typed_by : (named : Bool) (old : List ChangedEntry) (r : Range) (v : Value)
        → IfThere (Goes env x ts named old old None) (typed_call true r v)
    typed_by named old r v =
        typed_call_made named old true r (args_part_at v 0) (args_at v 1)

    typed_inner_ends : (named : Bool) (old : List ChangedEntry) (r : Range) (v : Value)
        → IfThere (Goes env x ts named old old None) (typed_optional_inner x ts r v)
    typed_inner_ends named old r (more (token n) vs) = marked_ends named old r (given (slice_get ts n) (property_of x))
    typed_inner_ends named old r (more absent vs) = typed_by named old r (more absent vs)
    typed_inner_ends named old r (more nil vs) = typed_by named old r (more nil vs)
    typed_inner_ends named old r (more (more u us) vs) = typed_by named old r (more (more u us) vs)
    typed_inner_ends named old r (more (node from to m) vs) = typed_by named old r (more (node from to m) vs)
    typed_inner_ends named old r absent = typed_by named old r absent
    typed_inner_ends named old r nil = typed_by named old r nil
    typed_inner_ends named old r (token n) = typed_by named old r (token n)
    typed_inner_ends named old r (node from to m) = typed_by named old r (node from to m)

    pub typed_optional_ends : {old : List ChangedEntry} {named : Bool} (r : Range) (v : Value)
        → IfThere (Goes env x ts named old old None) (view.typed_optioned x ts r v)
    unfolding view.typed_optioned
    typed_optional_ends {old = old} {named = named} r (node from to m) = indexed_ends named old r m.expr
    typed_optional_ends {old = old} {named = named} r absent = typed_inner_ends named old r nil
    typed_optional_ends {old = old} {named = named} r nil = typed_inner_ends named old r nil
    typed_optional_ends {old = old} {named = named} r (token n) = typed_inner_ends named old r nil
    typed_optional_ends {old = old} {named = named} r (more v vs) = typed_inner_ends named old r (more v vs)

    -- ---- `.a`
    hidden_by : (named : Bool) (old : List ChangedEntry) (r : Range) (t : Token) (b : Bool) → b ≡ true
        → IfThere (Goes env x ts named old old None) (option_map (member_of false r)
        (if b then option_map (λ name. (true, name)) (private_of x t) else Some (false, ident_of x t)))
    hidden_by named old r t true e = go (private_of x t)
      where
        go : (o : Option Ident) → IfThere (Goes env x ts named old old None)
            (option_map (member_of false r) (option_map (λ name. (true, name)) o))
        go None = record { is = tt }
        go (Some name) = record {
          is = ends named old (member_of false r (true, name)) (λ start obj. hidden_entity obj name _);
        }
    hidden_by named old r t false e = absurd (true≢false (sym e))

    pub hidden_ends : {old : List ChangedEntry} {named : Bool} (at : ℕ) (r : Range)
        → is_kind k.PrivateName (slice_get ts at) ≡ true
        → IfThere (Goes env x ts named old old None) (view.member x r (slice_get ts at))
    unfolding view.member property_of
    hidden_ends {old = old} {named = named} at r e = go (slice_get ts at) e
      where
        go : (o : Option Token) → is_kind k.PrivateName o ≡ true
            → IfThere (Goes env x ts named old old None) (option_map (member_of false r) (given o (property_of x)))
        go None e = record { is = tt }
        go (Some t) e = hidden_by named old r t (same_kind t.kind k.PrivateName) e

    -- with a plain name
    plain_by : (P : Post → Type 0) (r : Range) (t : Token) (b : Bool) → b ≡ false
        → P (member_of false r (false, ident_of x t))
        → IfThere P (option_map (member_of false r)
        (if b then option_map (λ name. (true, name)) (private_of x t) else Some (false, ident_of x t)))
    plain_by P r t true e p = absurd (true≢false e)
    plain_by P r t false e p = record { is = p }

    member_by : (P : Post → Type 0) (r : Range) (at : ℕ) → is_kind k.PrivateName (slice_get ts at) ≡ false
        → ((t : Token) → slice_get ts at ≡ Some t → P (member_of false r (false, ident_of x t)))
        → IfThere P (view.member x r (slice_get ts at))
    unfolding view.member property_of
    member_by P r at e p = go (slice_get ts at) refl e
      where
        go : (o : Option Token) → slice_get ts at ≡ o → is_kind k.PrivateName o ≡ false
            → IfThere P (option_map (member_of false r) (given o (property_of x)))
        go None is e = record { is = tt }
        go (Some t) is e = plain_by P r t (same_kind t.kind k.PrivateName) e (p t is)

    -- behind what is no name
    pub member_ends : {old : List ChangedEntry} {named : Bool} (at : ℕ) (r : Range)
        → is_kind k.PrivateName (slice_get ts at) ≡ false → named ≡ false
        → IfThere (Goes env x ts named old old None) (view.member x r (slice_get ts at))
    member_ends {old = old} {named = named} at r e n =
        subst (λ (b : Bool). IfThere (Goes env x ts b old old None) (view.member x r (slice_get ts at))) (sym n)
        (member_by (Goes env x ts false old old None) r at e (λ t is. record {
          names = [];
          puts = puts_none x ts (name_in env x ts) old;
          is = λ start left rest span obj h.
              dot_entity obj (ident_of x t) _ ∙ ap (option_map (longer env _ (ident_of x t))) h;
          key = λ start obj. dot_key obj (ident_of x t) _;
        }))

    pub member_goes : {old new : List ChangedEntry} {named : Bool} {at to : ℕ} (from : ℕ)
        → is_kind k.PrivateName (slice_get ts at) ≡ false → named ≡ true → Writes x ts old new (token at ∷ [])
        → IfThere (Goes env x ts named old new (Some to)) (view.member x (span_of ts from to) (slice_get ts at))
    member_goes {old = old} {new = new} {named = named} {at = at} {to = to} from e n w =
        subst (λ (b : Bool). IfThere (Goes env x ts b old new (Some to))
        (view.member x (span_of ts from to) (slice_get ts at)))
        (sym n)
        (member_by (Goes env x ts true old new (Some to)) (span_of ts from to) at e (λ t is. record {
          names = ident_of x t ∷ [];
          puts = record {
            values = token at ∷ [];
            writes = w;
            are = ap (λ o. option_map (ident_of x) o ∷ []) is;
          };
          is = λ start left rest span obj h.
              dot_entity obj (ident_of x t) _
              ∙ (ap (option_map (longer env (record { start = start; end = (span_of ts from to).end }) (ident_of x t)))
              h
              ∙ ap (λ (n : ℕ). Some (entity_from left (rest ++ ident_of x t ∷ []) (record { start = start; end = n })))
              (span_end ts from to));
          key = λ start obj. dot_key obj (ident_of x t) _;
        }))

    pub none_there : {old new : List ChangedEntry} {named : Bool} {end : Option ℕ} {v : Value} → v ≡ absent
        → IfThere (Goes env x ts named old new end) (given (typed v) (λ m. m.post))
    none_there {old = old} {new = new} {named = named} {end = end} {v = v} e =
        subst (λ (v : Value). IfThere (Goes env x ts named old new end) (given (typed v) (λ m. m.post))) (sym e)
        (record { is = tt })

    -- ---- all of them
    -- what stands before a part, whatever it spans
    abbrev end_of_some : Option ℕ → ℕ
    end_of_some (Some n) = end_before ts n
    end_of_some None = 0

    any_of : (before : Option ℕ) (left : TsThisTypeOrIdent) (rest : List Ident) (start : ℕ) (obj : Expr)
        → Has env x ts before left rest start obj
        → IsAny env x ts (is_some before) left rest (record { start = start; end = end_of_some before }) obj
    any_of (Some n) left rest start obj h = h
    any_of None left rest start obj h = h

    goes_none : (before : Option ℕ) (old : List ChangedEntry) → GoesOn env x ts before old old before []
    goes_none before old = record {
      names = [];
      puts = puts_none x ts (name_in env x ts) old;
      is = λ start left rest obj h. same before left rest start obj h;
      key = λ start obj k. k;
    }
      where
        same : (before : Option ℕ) (left : TsThisTypeOrIdent) (rest : List Ident) (start : ℕ) (obj : Expr)
            → Has env x ts before left rest start obj → Has env x ts before left (rest ++ []) start obj
        same before left rest start obj h =
            subst (λ them. Has env x ts before left them start obj) (sym (append-nil rest)) h

    goes_more : (before next end : Option ℕ) (old mid new : List ChangedEntry) (o : Option Post)
        (os : Option (List Post))
        → IfThere (Goes env x ts (is_some before) old mid next) o → IfThere (GoesOn env x ts next mid new end) os
        → IfThere (GoesOn env x ts before old new end) (given o (λ a. given os (λ rest. Some (a ∷ rest))))
    goes_more before next end old mid new None os p q = record { is = tt }
    goes_more before next end old mid new (Some post) None p q = record { is = tt }
    goes_more before next end old mid new (Some post) (Some posts) p q =
        let g : Goes env x ts (is_some before) old mid next post = p.is in
        let h : GoesOn env x ts next mid new end posts = q.is in
        record {
          is = record {
            names = g.names ++ h.names;
            puts = puts_both x ts (name_in env x ts) old mid new g.names h.names g.puts h.puts;
            is = λ start left rest obj has.
                subst (λ them. Has env x ts end left them start (chained start (post start obj) posts))
                (append_assoc rest g.names h.names)
                (h.is start left (rest ++ g.names) (post start obj)
                (g.is start left rest _ obj (any_of before left rest start obj has)));
            key = λ start obj k. h.key start (post start obj) (g.key start obj);
          };
        }

    pub record PostsLeft (first before : Option ℕ) (start now : List ChangedEntry) (all left : Value) : Type 0 where
      pub leads : (end : Option ℕ) (new : List ChangedEntry)
          → IfThere (GoesOn env x ts before now new end) (turns (λ turn. post_at turn 0) left)
          → IfThere (GoesOn env x ts first start new end) (turns (λ turn. post_at turn 0) all)

    pub posts_all : (first : Option ℕ) (start : List ChangedEntry) (all : Value)
        → PostsLeft first first start start all all
    posts_all first start all = record { leads = λ end new h. h }

    pub posts_next : {first before next : Option ℕ} {start now following : List ChangedEntry} {all left v rest : Value}
        → left ≡ more v rest → PostsLeft first before start now all left
        → IfThere (Goes env x ts (is_some before) now following next) (post_at (as_group v) 0)
        → PostsLeft first next start following all rest
    posts_next {first = first} {before = before} {next = next} {start = start} {now = now} {following = following}
        {all = all} {left = left} {v = v} {rest = rest} e left_ p = record {
          leads = λ end new h.
              left_.leads end new
              (subst (λ (w : Value). IfThere (GoesOn env x ts before now new end) (turns (λ turn. post_at turn 0) w))
              (sym e)
              (goes_more before next end now following new (post_at (as_group v) 0)
              (turns (λ turn. post_at turn 0) rest) p
              h));
        }

    pub posts_done : {first before : Option ℕ} {start now : List ChangedEntry} {all left : Value} → left ≡ nil
        → PostsLeft first before start now all left
        → IfThere (GoesOn env x ts first start now before) (turns (λ turn. post_at turn 0) all)
    posts_done {first = first} {before = before} {start = start} {now = now} {all = all} {left = left} e left_ =
        left_.leads before now
        (subst (λ (w : Value). IfThere (GoesOn env x ts before now now before) (turns (λ turn. post_at turn 0) w))
        (sym e)
        (record { is = goes_none before now }))

    -- a first part and others
    pub both_go : {old mid new : List ChangedEntry} {named : Bool} {next end : Option ℕ} {o : Option Post}
        {os : Option (List Post)} → IfThere (Goes env x ts named old mid next) o
        → IfThere (GoesOn env x ts next mid new end) os → IfThere (Chained env x ts named old new end) (posts_of o os)
    both_go {old = old} {mid = mid} {new = new} {named = named} {next = next} {end = end} {o = None} {os = os} p q =
        record { is = tt }
    both_go {old = old} {mid = mid} {new = new} {named = named} {next = next} {end = end} {o = Some post} {os = None} p
        q = record { is = tt }
    both_go {old = old} {mid = mid} {new = new} {named = named} {next = next} {end = end} {o = Some post}
        {os = Some posts} p q =
        let g : Goes env x ts named old mid next post = p.is in
        let h : GoesOn env x ts next mid new end posts = q.is in
        record {
          is = record {
            names = g.names ++ h.names;
            puts = puts_both x ts (name_in env x ts) old mid new g.names h.names g.puts h.puts;
            is = λ start left rest span obj any.
                subst (λ them. Has env x ts end left them start (chained start (post start obj) posts))
                (append_assoc rest g.names h.names)
                (h.is start left (rest ++ g.names) (post start obj) (g.is start left rest span obj any));
            key = λ start obj. h.key start (post start obj) (g.key start obj);
          };
        }
