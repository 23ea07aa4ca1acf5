-- What further parts of a chain make of a key.
use Rattle.std.specs.Prelude.{ℕ, ◌&&◌, Bool, true, false, not, List, ◌∷◌, Option, Some, None, option_map, if◌then◌else◌, slice_get}
use Rattle.std.proofs.Common.{◌≡◌, refl, sym, ap, subst, ◌∙◌}
use Rattle.std.proofs.lemmas.Bool.{true≢false}
use Rattle.base.specs.declared.range.Range.{Range}
use Rattle.es_token.specs.declared.token.Token.{Token}
use Rattle.es_grammar.specs.declared.rows.NodeKind.{NodeKind}
use Rattle.es_grammar.specs.declared.rows.NodeKind.TheVariants as l
use Rattle.es_ast.specs.declared.ts.leaf.Ident.{Ident}
use Rattle.es_ast.specs.declared.ts.ts.TsPart.{TsPart}
use Rattle.es_ast.specs.declared.ts.ts.TsPart.TheVariants as vPart
use Rattle.es_ast.specs.declared.ast.Expr.{Expr, roll-Expr}
use Rattle.es_ast.specs.declared.ast.Expr.TheVariants as vExpr
use Rattle.es_ast.specs.declared.ast.ClassMember.TheOpen.{Expr-F}
use Rattle.es_site.specs.Parts.{Whole}
use Rattle.es_lowering.specs.Value.{Value, absent, nil, more, token, node, given, part, as_group, turns, optional, args_at, post_at, arguments_at}
use Rattle.es_lowering.specs.Texts.{span_of, property_of}
use Rattle.es_lowering.specs.Functions.{Key}
use Rattle.es_lowering.specs.Expressions.{Post, optional_inner, member_of, index_of, call_of, tagged_of, chained}
use Rattle.es_lowering.specs.TypedParts.{args_part_at}
use Rattle.es_lowering.specs.TypedExpressions.{typed_optional_inner, typed_call_of, typed_tagged_of, non_null_of, typed_call}
use Rattle.es_lowering.specs.Lowering.{same_label, post_of, build}
use Rattle.es_syntax.specs.declared.entry.Entry.{Entry}
use Rattle.es_syntax.specs.declared.entry.Lean.{Lean}
use Rattle.es_syntax.specs.declared.entry.Lean.TheVariants as vLean
use Rattle.es_syntax.specs.declared.entry.What.{What}
use Rattle.es_syntax.specs.declared.entry.What.TheVariants as vWhat
use Rattle.es_syntax.specs.declared.cursor.Item.{Item}
use Rattle.es_syntax.specs.Held.{held, label_of, made, parts_of, valued}
use Rattle.es_syntax.specs.Roles.{post_in}
use Rattle.es_syntax.specs.Views.{is_one_of, IsNone}
use Rattle.es_syntax.proofs.Others.{in_held, in_role, in_leant}
use Rattle.es_view_expressions.specs.call.Post as view
use Rattle.dts_rules.specs.Rules as rules
use Rattle.dts_rules.specs.Rules.{Shown, in_expr, is_one, symbols}
use Rattle.dts_rules.specs.Programs.{shown_expr}
use Rattle.dts_rules.specs.Made.{if_true}
use Rattle.dts_rules.proofs.Shown.{beside_expr}
use Rattle.dts_draft.specs.Written.{IfThere}
use Rattle.dts_draft.proofs.There.{made as made_there, given_any, lifted}
use Rattle.dts_leaves.proofs.Shown.{shown_by}
use Rattle.dts_member_keys.specs.Looks.{kept, At, Bangs, Ends, IsDot, IsSymbol, KeyIs, Link, Links}
use Rattle.dts_member_keys.proofs.CastLemmas.{key_by}

module _ (by : rules.Env) where
  pub symbol_by : (it : Expr) (w : Whole Expr-F) → roll-Expr w ≡ it
      → (shown_expr by it).is_symbol ≡ (in_expr by (beside_expr by w)).is_symbol
  symbol_by it w rolls = ap (λ (s : Shown). s.is_symbol) (shown_by by it w rolls)

  -- ---- each form: neither a key nor `Symbol`
  abbrev Nothing : Expr → Type 0
  Nothing e = (IsSymbol by false e) × (KeyIs by None e)

  nothing : (it : Expr) (w : Whole Expr-F) → roll-Expr w ≡ it → (in_expr by (beside_expr by w)).is_symbol ≡ false
      → (in_expr by (beside_expr by w)).key ≡ None → Nothing it
  nothing it w rolls s k = (symbol_by it w rolls ∙ s, key_by by it w rolls ∙ k)

  marked_nothing : (obj : Expr) (hidden : Bool) (name : Ident) (r : Range) → Nothing (vExpr.Member obj true hidden name r)
  marked_nothing obj hidden name r =
      nothing _ (Expr-F.Member obj true hidden name r) (vExpr.rolls-Member obj true hidden name r) refl refl

  index_nothing : (obj : Expr) (mark : Bool) (e : Expr) (r : Range) → Nothing (vExpr.Index obj mark e r)
  index_nothing obj mark e r = nothing _ (Expr-F.Index obj mark e r) (vExpr.rolls-Index obj mark e r) refl refl

  call_nothing : (obj : Expr) (mark : Bool) (ty : Option TsPart) (args : List Expr) (r : Range)
      → Nothing (vExpr.Call obj mark ty args r)
  call_nothing obj mark ty args r =
      nothing _ (Expr-F.Call obj mark ty args r) (vExpr.rolls-Call obj mark ty args r) refl refl

  tagged_nothing : (obj : Expr) (ty : Option TsPart) (tpl : Expr) (r : Range) → Nothing (vExpr.TaggedTpl obj ty tpl r)
  tagged_nothing obj ty tpl r =
      nothing _ (Expr-F.TaggedTpl obj ty tpl r) (vExpr.rolls-TaggedTpl obj ty tpl r) refl refl

  ends : (post : Post) → ((start : ℕ) (obj : Expr) → Nothing (post start obj)) → Ends by post
  ends post n = record { symbol = λ start obj. (n start obj).0; key = λ start obj. (n start obj).1 }

  -- ---- `!`
  non_null : (r : Range) → Bangs by (non_null_of r)
  non_null r = record {
    symbol = λ start obj. symbol_by _ (Expr-F.TsNonNull obj _) (vExpr.rolls-TsNonNull obj _);
    key = λ start obj. key_by by _ (Expr-F.TsNonNull obj _) (vExpr.rolls-TsNonNull obj _);
  }

  pub bang_is : (r : Range) → IfThere (Bangs by) (Some (non_null_of r))
  bang_is r = record { is = non_null r }

  -- ---- `.a`: a key only behind `Symbol`
  pub dot_symbol : (obj : Expr) (m : Bool × Ident) (r : Range) → IsSymbol by false (vExpr.Member obj false m.0 m.1 r)
  dot_symbol obj m r =
      symbol_by _ (Expr-F.Member obj false m.0 m.1 r) (vExpr.rolls-Member obj false m.0 m.1 r)

  pub dot_key : (obj : Expr) (m : Bool × Ident) (r : Range) → (shown_expr by (vExpr.Member obj false m.0 m.1 r)).key
      ≡ if_true (not m.0 && ((shown_expr by obj).is_symbol && is_one symbols m.1.sym))
      (true, vExpr.Member obj false m.0 m.1 r)
  dot_key obj m r = key_by by _ (Expr-F.Member obj false m.0 m.1 r) (vExpr.rolls-Member obj false m.0 m.1 r)

  -- ---- the views
  pub index_ends : (r : Range) (o : Option Expr) → IfThere (Ends by) (view.index r o)
  unfolding view.index
  index_ends r o =
      made_there (Ends by) (index_of false r) o
      (λ e. ends (index_of false r e) (λ start obj. index_nothing obj false e _))

  pub call_ends : (r : Range) (o : Option (List Expr)) → IfThere (Ends by) (view.call r o)
  unfolding view.call
  call_ends r o =
      made_there (Ends by) (call_of false r) o
      (λ args. ends (call_of false r args) (λ start obj. call_nothing obj false None args _))

  pub tagged_ends : (r : Range) (o : Option Expr) → IfThere (Ends by) (view.tagged r o)
  unfolding view.tagged
  tagged_ends r o =
      made_there (Ends by) (tagged_of r) o
      (λ tpl. ends (tagged_of r tpl) (λ start obj. tagged_nothing obj None tpl _))

  typed_call_made : (mark : Bool) (r : Range) (ty : Option (Option TsPart)) (o : Option (List Expr))
      → IfThere (Ends by) (given ty (λ ty. given o (λ args. Some (typed_call_of mark r ty args))))
  typed_call_made mark r ty o =
      given_any (Ends by) ty _ (λ ty. given_any (Ends by) o _ (λ args. record {
        is = ends (typed_call_of mark r ty args) (λ start obj. call_nothing obj mark ty args _);
      }))

  pub typed_call_ends : (r : Range) (v : Value) (o : Option (List Expr)) → IfThere (Ends by) (view.typed_call r v o)
  unfolding view.typed_call
  typed_call_ends r v o =
      typed_call_made false r (option_map (λ args. option_map vPart.TypeArgs args) (optional arguments_at v)) o

  pub typed_tagged_ends : (r : Range) (v : Value) (o : Option Expr) → IfThere (Ends by) (view.typed_tagged r v o)
  unfolding view.typed_tagged
  typed_tagged_ends r v o =
      given_any (Ends by) (option_map (λ args. option_map vPart.TypeArgs args) (optional arguments_at v)) _ (λ ty.
      made_there (Ends by) (typed_tagged_of r ty) o
      (λ tpl. ends (typed_tagged_of r ty tpl) (λ start obj. tagged_nothing obj ty tpl _)))

  -- behind `?.`
  marked_ends : (r : Range) (o : Option (Bool × Ident)) → IfThere (Ends by) (option_map (member_of true r) o)
  marked_ends r o =
      made_there (Ends by) (member_of true r) o
      (λ m. ends (member_of true r m) (λ start obj. marked_nothing obj m.0 m.1 _))

  called_ends : (r : Range) (o : Option (List Expr)) → IfThere (Ends by) (option_map (call_of true r) o)
  called_ends r o =
      made_there (Ends by) (call_of true r) o
      (λ args. ends (call_of true r args) (λ start obj. call_nothing obj true None args _))

  indexed_ends : (r : Range) (o : Option Expr) → IfThere (Ends by) (option_map (index_of true r) o)
  indexed_ends r o =
      made_there (Ends by) (index_of true r) o
      (λ e. ends (index_of true r e) (λ start obj. index_nothing obj true e _))

  module _ (x : List ℕ) (ts : List Token) where
    inner_ends : (r : Range) (v : Value) → IfThere (Ends by) (optional_inner x ts r v)
    inner_ends r (token n) = marked_ends r (given (slice_get ts n) (property_of x))
    inner_ends r absent = called_ends r None
    inner_ends r nil = called_ends r None
    inner_ends r (more v vs) = called_ends r None
    inner_ends r (node from to m) = called_ends r m.args

    pub optional_ends : (r : Range) (v : Value) → IfThere (Ends by) (view.optioned x ts r v)
    unfolding view.optioned
    optional_ends r (node from to m) = indexed_ends r m.expr
    optional_ends r absent = inner_ends r absent
    optional_ends r nil = inner_ends r absent
    optional_ends r (token n) = inner_ends r absent
    optional_ends r (more v vs) = inner_ends r v

    typed_by : (r : Range) (v : Value) → IfThere (Ends by) (typed_call true r v)
    typed_by r v = typed_call_made true r (args_part_at v 0) (args_at v 1)

    typed_inner_ends : (r : Range) (v : Value) → IfThere (Ends by) (typed_optional_inner x ts r v)
    typed_inner_ends r (more (token n) vs) = marked_ends r (given (slice_get ts n) (property_of x))
    typed_inner_ends r (more absent vs) = typed_by r (more absent vs)
    typed_inner_ends r (more nil vs) = typed_by r (more nil vs)
    typed_inner_ends r (more (more u us) vs) = typed_by r (more (more u us) vs)
    typed_inner_ends r (more (node from to m) vs) = typed_by r (more (node from to m) vs)
    typed_inner_ends r absent = typed_by r absent
    typed_inner_ends r nil = typed_by r nil
    typed_inner_ends r (token n) = typed_by r (token n)
    typed_inner_ends r (node from to m) = typed_by r (node from to m)

    pub typed_optional_ends : (r : Range) (v : Value) → IfThere (Ends by) (view.typed_optioned x ts r v)
    unfolding view.typed_optioned
    typed_optional_ends r (node from to m) = indexed_ends r m.expr
    typed_optional_ends r absent = typed_inner_ends r nil
    typed_optional_ends r nil = typed_inner_ends r nil
    typed_optional_ends r (token n) = typed_inner_ends r nil
    typed_optional_ends r (more v vs) = typed_inner_ends r (more v vs)

    pub dot_is : (at : ℕ) (r : Range) → IsDot x ts at (view.member x r (slice_get ts at))
    dot_is at r = record { range = r; is = refl }

    -- ---- no further part
    first : (b rest : Bool) → (if b then true else rest) ≡ false → (b ≡ false) × (rest ≡ false)
    first true rest e = absurd (true≢false e)
    first false rest e = (refl, e)

    other : (b : Bool) (o rest : Option Post) → b ≡ false → rest ≡ None → (if b then o else rest) ≡ None
    other true o rest e none = absurd (true≢false e)
    other false o rest e none = none

    no_post : (label : NodeKind) (r : Range) (p : Value) → is_one_of view.posts label ≡ false
        → post_of x ts label r p ≡ None
    unfolding post_of
    no_post label r p e =
        let a = first (same_label label l.MemberPost) _ e in
        let b = first (same_label label l.IndexPost) _ a.1 in
        let c = first (same_label label l.CallPost) _ b.1 in
        let d = first (same_label label l.TemplatePost) _ c.1 in
        let f = first (same_label label l.OptionalPost) _ d.1 in
        let g = first (same_label label l.TypedCallPost) _ f.1 in
        let h = first (same_label label l.TypedTemplatePost) _ g.1 in
        let i = first (same_label label l.TypedOptionalPost) _ h.1 in
        let j = first (same_label label l.NonNullPost) _ i.1 in
        other (same_label label l.MemberPost) _ _ a.0 (other (same_label label l.IndexPost) _ _ b.0
        (other (same_label label l.CallPost) _ _ c.0 (other (same_label label l.TemplatePost) _ _ d.0
        (other (same_label label l.OptionalPost) _ _ f.0 (other (same_label label l.TypedCallPost) _ _ g.0
        (other (same_label label l.TypedTemplatePost) _ _ h.0 (other (same_label label l.TypedOptionalPost) _ _ i.0
        (other (same_label label l.NonNullPost) _ _ j.0 refl))))))))

    leaning : (lean : Lean) (from : ℕ) (r : Range) (p : Value) → (build x ts (label_of lean) from r p).post ≡ None
    unfolding build post_of
    leaning vLean.Binary from r p = refl
    leaning vLean.TypedBinary from r p = refl

    no_post_at : (w : What) (from to : ℕ) (es : List Entry) → IsNone view.posts w
        → post_in (made x ts w from to (held x ts es) (parts_of x ts es)) ≡ None
    unfolding build
    no_post_at vWhat.Leaf from to es h = refl
    no_post_at (vWhat.Node label) from to es h = no_post label (span_of ts from to) (held x ts es) h
    no_post_at (vWhat.Role label) from to es h = in_role x ts (λ m. m.post) (λ e. refl) (part (held x ts es) 0)
    no_post_at vWhat.Parts from to es h = in_held x ts (λ m. m.post) es
    no_post_at (vWhat.Lean lean) from to es h = in_leant x ts (λ m. m.post) leaning lean from (parts_of x ts es)

    pub none_ends : (o : Option Post) → o ≡ None → IfThere (Ends by) o
    none_ends o e = subst (λ (o : Option Post). IfThere (Ends by) o) (sym e) (record { is = tt })

    pub no_post_ends : (i : Item) → IsNone view.posts i.what → IfThere (Ends by) (post_in (valued x ts i))
    no_post_ends i h = none_ends _ (no_post_at i.what i.from i.to i.parts.entries.now h)

  -- ---- a further part, behind what isn't `Symbol`
  pub bang_link : {o : Option Post} → IfThere (Bangs by) o → IfThere (Link by true) o
  bang_link h =
      lifted (λ post b. record {
        leads = λ k start obj at. record { symbol = b.symbol start obj; key = b.key start obj ∙ at.key };
      }) h

  pub other_link : {o : Option Post} → IfThere (Ends by) o → IfThere (Link by false) o
  other_link h =
      lifted (λ post e. record {
        leads = λ k start obj at. record { symbol = e.symbol start obj; key = e.key start obj };
      }) h

  and_none : (a b c : Bool) (key : Key) → b ≡ false → if_true (a && (b && c)) key ≡ None
  and_none true true c key e = absurd (true≢false e)
  and_none true false c key e = refl
  and_none false b c key e = refl

  dot_links : (r : Range) (m : Bool × Ident) → Link by false (member_of false r m)
  dot_links r m = record {
    leads = λ k start obj at. record {
      symbol = dot_symbol obj m _;
      key = dot_key obj m _ ∙ and_none (not m.0) (shown_expr by obj).is_symbol (is_one symbols m.1.sym) _ at.symbol;
    };
  }

  member_link : (x : List ℕ) (r : Range) (o : Option Token) → IfThere (Link by false) (view.member x r o)
  unfolding view.member
  member_link x r o = made_there (Link by false) (member_of false r) (given o (property_of x)) (dot_links r)

  pub dot_link : {x : List ℕ} {ts : List Token} {at : ℕ} {o : Option Post} → IsDot x ts at o → IfThere (Link by false) o
  dot_link {x = x} {ts = ts} {at = at} {o = o} d =
      subst (λ (o : Option Post). IfThere (Link by false) o) (sym d.is) (member_link x d.range (slice_get ts at))

  -- ---- in turns
  pub turn_link : (g v w : Value) (b : Bool) → g ≡ as_group w → part g 0 ≡ v → IfThere (Link by b) (post_in v)
      → IfThere (Link by b) (post_at (as_group w) 0)
  turn_link g v w b same e known =
      subst (λ (v : Value). IfThere (Link by b) (post_in v)) (sym (ap (λ (g : Value). part g 0) (sym same) ∙ e)) known

  pub no_turn : (g w : Value) (b : Bool) → g ≡ as_group w → part g 0 ≡ absent
      → IfThere (Link by b) (post_at (as_group w) 0)
  no_turn g w b same e = turn_link g absent w b same e (record { is = tt })

  pub links_none : (row : Value) (b : Bool) → row ≡ nil → Links by b b row
  links_none row b e =
      subst (λ (row : Value). Links by b b row) (sym e) (λ k start obj known. record { is = known })

  kept_both : (bang before : Bool) (k : Option Key) → kept bang (kept before k) ≡ kept (bang && before) k
  kept_both true before k = refl
  kept_both false before k = refl

  links_more : (o : Option Post) (os : Option (List Post)) (k : Option Key) (bang before mid after : Bool)
      → mid ≡ (bang && before) → IfThere (Link by bang) o
      → ((start : ℕ) (obj : Expr) → At by (kept mid k) obj
      → IfThere (λ posts. At by (kept after k) (chained start obj posts)) os)
      → (start : ℕ) (obj : Expr) → At by (kept before k) obj
      → IfThere (λ posts. At by (kept after k) (chained start obj posts))
      (given o (λ a. given os (λ rest. Some (a ∷ rest))))
  links_more None os k bang before mid after m link rest start obj known = record { is = tt }
  links_more (Some post) None k bang before mid after m link rest start obj known = record { is = tt }
  links_more (Some post) (Some posts) k bang before mid after m link rest start obj known = record {
    is = (rest start (post start obj)
        (subst (λ (key : Option Key). At by key (post start obj))
        (kept_both bang before k ∙ ap (λ (b : Bool). kept b k) (sym m))
        (link.is.leads (kept before k) start obj known))).is;
  }

  pub links_next : (row v vs : Value) (bang before mid after : Bool) → row ≡ more v vs → mid ≡ (bang && before)
      → IfThere (Link by bang) (post_at (as_group v) 0) → Links by mid after vs → Links by before after row
  links_next row v vs bang before mid after e m link rest =
      subst (λ (row : Value). Links by before after row) (sym e) (λ k start obj known.
      links_more (post_at (as_group v) 0) (turns (λ turn. post_at turn 0) vs) k bang before mid after m link
      (rest k) start obj known)
