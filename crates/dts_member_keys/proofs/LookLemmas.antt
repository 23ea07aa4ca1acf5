-- What keys in brackets are looked through to.
use Rattle.std.specs.Prelude.{ℕ, ◌+◌, ◌<◌, ◌≤◌, ◌&&◌, ◌||◌, Bool, true, false, not, List, ◌∷◌, Option, Some, None, option_map, if◌then◌else◌, IfSome, length, bytes_eq, codes, slice_get, slice_range}
use Rattle.std.proofs.Common.{arith, ◌≡◌, refl, sym, ap, subst, ◌∙◌}
use Rattle.std.proofs.lemmas.Bool.{true≢false}
use Rattle.base.specs.declared.range.Range.{Range}
use Rattle.es_token.specs.declared.token.Token.{Token}
use Rattle.es_token.specs.declared.token.TokenKind.TheVariants as k
use Rattle.grammar_theory.specs.Key.{same_kind}
use Rattle.es_grammar.specs.declared.rows.NodeKind.{NodeKind}
use Rattle.es_grammar.specs.declared.rows.NodeKind.TheVariants as l
use Rattle.es_ast.specs.declared.ts.leaf.Ident.{Ident}
use Rattle.es_ast.specs.declared.leaf.Lit.{Lit}
use Rattle.es_ast.specs.declared.leaf.Lit.TheVariants as vLit
use Rattle.es_ast.specs.declared.ast.Expr.{Expr}
use Rattle.es_ast.specs.declared.ast.Expr.TheVariants as vExpr
use Rattle.es_ast.specs.declared.ast.ClassMember.TheOpen.{Expr-F}
use Rattle.es_lowering.specs.Value.{Value, nil, given, part, turns, post_at}
use Rattle.es_lowering.specs.Texts.{span_of, ident_of, str_of, numeric_of, private_of, property_of, token_at}
use Rattle.es_lowering.specs.TypeTexts.{number_of, big_of}
use Rattle.es_lowering.specs.Functions.{Key}
use Rattle.es_lowering.specs.Expressions as exprs
use Rattle.es_lowering.specs.Expressions.{Post, member_of, chained}
use Rattle.es_lowering.specs.TypedExpressions.{asserted_by, turned_by}
use Rattle.es_lowering.specs.Lowering.{build, expr_of}
use Rattle.es_syntax.specs.declared.entry.Lean.{Lean}
use Rattle.es_syntax.specs.declared.entry.What.{What}
use Rattle.es_syntax.specs.declared.entry.What.TheVariants as vWhat
use Rattle.es_syntax.specs.declared.cursor.Item.{Item}
use Rattle.es_syntax.specs.Held.{held, leant, made, parts_of, valued}
use Rattle.es_syntax.specs.Roles.{expr_in, post_in}
use Rattle.es_syntax.specs.Views.{is_one_of}
use Rattle.es_syntax.proofs.Others.{in_held, in_role}
use Rattle.es_expr_spans.proofs.PostForms.{EachPost, place_posts}
use Rattle.es_view_expressions.specs.call.Call as call
use Rattle.es_view_expressions.specs.call.Post as view
use Rattle.es_view_expressions.specs.expr.Primary as primary
use Rattle.es_view_expressions.specs.member.Key as key_view
use Rattle.es_view_expressions.specs.operator.Operator as operator
use Rattle.dts_rules.specs.Made.{if_true}
use Rattle.dts_rules.specs.Rules as rules
use Rattle.dts_rules.specs.Rules.{is_one, symbols}
use Rattle.dts_rules.specs.Programs.{shown_expr}
use Rattle.dts_draft.specs.Drafts.{is_kind}
use Rattle.dts_draft.specs.Written.{IfThere}
use Rattle.dts_draft.proofs.There.{made as made_there}
use Rattle.dts_leaves.proofs.NumberLemmas.{Numeric, number, big, none, numeric}
use Rattle.dts_names.specs.Names.{IsCalled}
use Rattle.dts_member_keys.specs.declared.keys.MemberKey.TheVariants as shown
use Rattle.dts_member_keys.specs.declared.looks.Look.{Look}
use Rattle.dts_member_keys.specs.declared.looks.Look.TheVariants as look
use Rattle.dts_member_keys.specs.Keys.{SameKey, Tells}
use Rattle.dts_member_keys.specs.Looks.{keyed, naming, kept, KeyIs, Sees, IsSymbol, Turned, At, Bangs, Ends, Links, LookTells, IsUnder}
use Rattle.dts_member_keys.proofs.Claims.{node_key, node_symbol, lean_symbol}
use Rattle.dts_member_keys.proofs.CastLemmas.{key_by, asserted_key}
use Rattle.dts_member_keys.proofs.LinkLemmas.{symbol_by, dot_key}

-- ---- the names of known symbols, four by four
or_four : (a b c d rest : Bool) → (a || (b || (c || (d || rest)))) ≡ ((a || (b || (c || d))) || rest)
or_four true b c d rest = refl
or_four false true c d rest = refl
or_four false false true d rest = refl
or_four false false false true rest = refl
or_four false false false false rest = refl

or_none : (a b c d : Bool) → (a || (b || (c || (d || false)))) ≡ (a || (b || (c || d)))
or_none true b c d = refl
or_none false true c d = refl
or_none false false true d = refl
or_none false false false true = refl
or_none false false false false = refl

four_more : (a b c d rest four more : Bool) → four ≡ (a || (b || (c || d))) → rest ≡ more
    → (a || (b || (c || (d || rest)))) ≡ (four || more)
four_more a b c d rest four more ef er =
    or_four a b c d rest ∙ (ap (λ (y : Bool). y || rest) (sym ef) ∙ ap (λ (y : Bool). four || y) er)

pub known_is : (q : List ℕ) (a b c d rest more all : Bool)
    → a ≡ (bytes_eq (codes "asyncDispose") q || (bytes_eq (codes "asyncIterator") q || (bytes_eq (codes "dispose") q
    || bytes_eq (codes "hasInstance") q)))
    → b ≡ (bytes_eq (codes "isConcatSpreadable") q || (bytes_eq (codes "iterator") q || (bytes_eq (codes "match") q
    || bytes_eq (codes "matchAll") q)))
    → c ≡ (bytes_eq (codes "metadata") q || (bytes_eq (codes "replace") q || (bytes_eq (codes "search") q
    || bytes_eq (codes "species") q)))
    → d ≡ (bytes_eq (codes "split") q || (bytes_eq (codes "toPrimitive") q || (bytes_eq (codes "toStringTag") q
    || bytes_eq (codes "unscopables") q)))
    → rest ≡ (c || d) → more ≡ (b || rest) → all ≡ (a || more) → is_one symbols q ≡ all
known_is q a b c d rest more all ea eb ec ed er em e =
    four_more (bytes_eq (codes "asyncDispose") q) (bytes_eq (codes "asyncIterator") q) (bytes_eq (codes "dispose") q)
    (bytes_eq (codes "hasInstance") q) _ a more ea
    (four_more (bytes_eq (codes "isConcatSpreadable") q) (bytes_eq (codes "iterator") q) (bytes_eq (codes "match") q)
    (bytes_eq (codes "matchAll") q) _ b rest eb
    (four_more (bytes_eq (codes "metadata") q) (bytes_eq (codes "replace") q) (bytes_eq (codes "search") q)
    (bytes_eq (codes "species") q) _ c d ec
    (or_none (bytes_eq (codes "split") q) (bytes_eq (codes "toPrimitive") q) (bytes_eq (codes "toStringTag") q)
    (bytes_eq (codes "unscopables") q) ∙ sym ed) ∙ sym er) ∙ sym em) ∙ sym e

module _ (x : List ℕ) where
  -- ---- a known symbol after a dot
  abbrev Known : Bool → Bool × Ident → Type 0
  Known b m = (not m.0 && is_one symbols m.1.sym) ≡ b

  private_by : (t : Token) (b : Bool) → b ≡ true → IfThere (Known false)
      (if b then option_map (λ name. (true, name)) (private_of x t) else Some (false, ident_of x t))
  private_by t true e = made_there (Known false) (λ name. (true, name)) (private_of x t) (λ name. refl)
  private_by t false e = absurd (true≢false (sym e))

  pub private_known : (o : Option Token) → is_kind k.PrivateName o ≡ true
      → IfThere (Known false) (given o (property_of x))
  unfolding property_of
  private_known None e = record { is = tt }
  private_known (Some t) e = private_by t (same_kind t.kind k.PrivateName) e

  pub no_known : (o : Option Token) (b : Bool) → o ≡ None → IfThere (Known b) (given o (property_of x))
  no_known o b e = subst (λ (o : Option Token). IfThere (Known b) (given o (property_of x))) (sym e) (record { is = tt })

  plain_by : (t : Token) (b c : Bool) → b ≡ false → is_one symbols (ident_of x t).sym ≡ c → IfThere (Known c)
      (if b then option_map (λ name. (true, name)) (private_of x t) else Some (false, ident_of x t))
  plain_by t true c e h = absurd (true≢false e)
  plain_by t false c e h = record { is = h }

  pub named_known : (o : Option Token) (t : Token) (q : List ℕ) (b : Bool) → is_kind k.PrivateName o ≡ false
      → o ≡ Some t → q ≡ slice_range x t.range.start t.range.end → is_one symbols q ≡ b
      → IfThere (Known b) (given o (property_of x))
  unfolding property_of ident_of
  named_known o t q b plain there eq e =
      subst (λ (o : Option Token). IfThere (Known b) (given o (property_of x))) (sym there)
      (plain_by t (same_kind t.kind k.PrivateName) b
      (subst (λ (o : Option Token). is_kind k.PrivateName o ≡ false) there plain)
      (ap (λ (p : List ℕ). is_one symbols p) (sym eq) ∙ e))

-- at a place of a row
expr_place : (P : Expr → Type 0) (x : List ℕ) (ts : List Token) (i : Item) (w : What) → i.what ≡ w
    → IfThere P (expr_in (made x ts w i.from i.to (held x ts i.parts.entries.now) (parts_of x ts i.parts.entries.now)))
    → IfThere P (expr_in (valued x ts i))
expr_place P x ts i w is h =
    subst (λ (w : What). IfThere P
    (expr_in (made x ts w i.from i.to (held x ts i.parts.entries.now) (parts_of x ts i.parts.entries.now)))) (sym is) h

-- ---- what is found lies below
pub under_more : (it : Look) (m n : ℕ) → m ≤ n → IsUnder it m → IsUnder it n
under_more (look.Inner i) m n le h = omega arith
under_more (look.Key it) m n le h = tt

-- how many looks it may still take
abbrev pub depth : Look → ℕ
depth (look.Inner i) = length i.parts.entries.now + 1
depth (look.Key it) = 0

pub under_depth : (it : Look) (n : ℕ) → IsUnder it n → depth it < n + 1
under_depth (look.Inner i) n h = omega arith
under_depth (look.Key it) n h = omega arith

pub depth_less : (before after : Look) (i : Item) → before ≡ look.Inner i → IsUnder after (length i.parts.entries.now)
    → depth after < depth before
depth_less before after i e h =
    subst (λ (before : Look). depth after < depth before) (sym e) (under_depth after (length i.parts.entries.now) h)

module _ (by : rules.Env) where
  -- ---- no key
  pub no_key : {o : Option Expr} (e : o ≡ None) (k : Option Key) → IfThere (KeyIs by k) o
  no_key {o = o} e k = subst (λ (o : Option Expr). IfThere (KeyIs by k) o) (sym e) (record { is = tt })

  -- ---- `Symbol`
  pub no_symbol : {o : Option Expr} (e : o ≡ None) (b : Bool) → IfThere (IsSymbol by b) o
  no_symbol {o = o} e b = subst (λ (o : Option Expr). IfThere (IsSymbol by b) o) (sym e) (record { is = tt })

  name_is : (x : List ℕ) (b : Bool) (o : Option Token) → IfThere (IsCalled by x (codes "Symbol") b) o
      → IfThere (IsSymbol by b) (option_map vExpr.Ident (option_map (ident_of x) o))
  name_is x b None h = record { is = tt }
  name_is x b (Some t) h = record {
    is = symbol_by by _ (Expr-F.Expr::Ident (ident_of x t)) (vExpr.rolls-Ident (ident_of x t)) ∙ h.is;
  }

  module _ (x : List ℕ) (ts : List Token) where
    pub name_symbol : (from : ℕ) (r : Range) (p : Value) (at : ℕ) (b : Bool) → token_at ts p 0 ≡ slice_get ts at
        → IfThere (IsCalled by x (codes "Symbol") b) (slice_get ts at)
        → IfThere (IsSymbol by b) (expr_of x ts l.Name from r p)
    unfolding expr_of exprs.name
    name_symbol from r p at b e h =
        name_is x b (token_at ts p 0) (subst (λ (o : Option Token). IfThere (IsCalled by x (codes "Symbol") b) o) (sym e) h)

    pub no_name : (from : ℕ) (r : Range) (p : Value) (b : Bool) → token_at ts p 0 ≡ None
        → IfThere (IsSymbol by b) (expr_of x ts l.Name from r p)
    unfolding expr_of exprs.name
    no_name from r p b e =
        name_is x b (token_at ts p 0)
        (subst (λ (o : Option Token). IfThere (IsCalled by x (codes "Symbol") b) o) (sym e) (record { is = tt }))

    pub own_symbol : (i : Item) (label : NodeKind) (b : Bool) → i.what ≡ vWhat.Node label
        → ((from : ℕ) (r : Range)
        → IfThere (IsSymbol by b) (expr_of x ts label from r (held x ts i.parts.entries.now)))
        → IfThere (IsSymbol by b) (expr_in (valued x ts i))
    unfolding build
    own_symbol i label b is h =
        expr_place (IsSymbol by b) x ts i (vWhat.Node label) is (h i.from (span_of ts i.from i.to))

    pub other_symbol : (i : Item) (label : NodeKind) → i.what ≡ vWhat.Node label → is_one_of naming label ≡ false
        → IfThere (IsSymbol by false) (expr_in (valued x ts i))
    other_symbol i label is h =
        expr_place (IsSymbol by false) x ts i (vWhat.Node label) is
        (node_symbol by x ts label i.from i.to i.parts.entries.now h)

    pub lean_symbol_at : (i : Item) (lean : Lean) → i.what ≡ vWhat.Lean lean
        → IfThere (IsSymbol by false) (expr_in (valued x ts i))
    lean_symbol_at i lean is =
        expr_place (IsSymbol by false) x ts i (vWhat.Lean lean) is
        (lean_symbol by x ts lean i.from i.to i.parts.entries.now)

    pub leaf_symbol : (i : Item) (b : Bool) → i.what ≡ vWhat.Leaf → IfThere (IsSymbol by b) (expr_in (valued x ts i))
    leaf_symbol i b is = expr_place (IsSymbol by b) x ts i vWhat.Leaf is (record { is = tt })

    pub role_symbol : (i : Item) (label : NodeKind) (b : Bool) → i.what ≡ vWhat.Role label
        → IfThere (IsSymbol by b) (expr_in (valued x ts i))
    role_symbol i label b is =
        expr_place (IsSymbol by b) x ts i (vWhat.Role label) is
        (no_symbol (in_role x ts (λ m. m.expr) (λ e. refl) (part (held x ts i.parts.entries.now) 0)) b)

    pub parts_symbol : (i : Item) (b : Bool) → i.what ≡ vWhat.Parts → IfThere (IsSymbol by b) (expr_in (valued x ts i))
    parts_symbol i b is =
        expr_place (IsSymbol by b) x ts i vWhat.Parts is
        (no_symbol (in_held x ts (λ m. m.expr) i.parts.entries.now) b)

    -- ---- a chain of a base and one further part
    abbrev Pair : Range → Option Expr → Option Post → Option Expr
    Pair r base first = given base (λ base. given first (λ first. Some (first r.start base)))

    pair_is : (r : Range) (base : Option Expr) (first : Option Post) → call.chained_of r base first nil ≡ Pair r base first
    unfolding call.chained_of
    pair_is r None first = refl
    pair_is r (Some base) None = refl
    pair_is r (Some base) (Some first) = refl

    of_pair : (P : Expr → Type 0) (r : Range) (base : Option Expr) (first : Option Post)
        → IfThere P (Pair r base first) → IfThere P (call.chained_of r base first nil)
    of_pair P r base first h = subst (λ (o : Option Expr). IfThere P o) (sym (pair_is r base first)) h

    pair_none : (r : Range) (base : Option Expr) (first : Option Post) → IfThere (Ends by) first
        → IfThere (KeyIs by None) (Pair r base first)
    pair_none r None first h = record { is = tt }
    pair_none r (Some base) None h = record { is = tt }
    pair_none r (Some base) (Some first) h = record { is = h.is.key r.start base }

    -- any other further part
    pub other_none : (r : Range) (base : Option Expr) (first : Option Post) → IfThere (Ends by) first
        → IfThere (KeyIs by None) (call.chained_of r base first nil)
    other_none r base first h = of_pair (KeyIs by None) r base first (pair_none r base first h)

    -- `!`
    pair_leads : (r : Range) (base : Option Expr) (first : Option Post) → IfThere (Bangs by) first → (key : Option Key)
        → IfThere (KeyIs by key) base → IfThere (KeyIs by key) (Pair r base first)
    pair_leads r None first h key known = record { is = tt }
    pair_leads r (Some base) None h key known = record { is = tt }
    pair_leads r (Some base) (Some first) h key known = record { is = h.is.key r.start base ∙ known.is }

    pub bang_sees : (r : Range) (base : Option Expr) (first : Option Post) → IfThere (Bangs by) first
        → Sees by base (call.chained_of r base first nil)
    bang_sees r base first h = record {
      leads = λ key known. of_pair (KeyIs by key) r base first (pair_leads r base first h key known);
    }

    -- `.a`
    and_not : (a b c : Bool) (key : Key) → (a && c) ≡ false → if_true (a && (b && c)) key ≡ None
    and_not true true true key e = absurd (true≢false e)
    and_not true true false key e = refl
    and_not true false c key e = refl
    and_not false b c key e = refl

    not_and : (a b c : Bool) (key : Key) → b ≡ false → if_true (a && (b && c)) key ≡ None
    not_and true true c key e = absurd (true≢false e)
    not_and true false c key e = refl
    not_and false b c key e = refl

    both_and : (a b c : Bool) (key : Key) → (a && c) ≡ true → b ≡ true → if_true (a && (b && c)) key ≡ Some key
    both_and true true true key e f = refl
    both_and true true false key e f = absurd (true≢false (sym e))
    both_and true false c key e f = absurd (true≢false (sym f))
    both_and false b c key e f = absurd (true≢false (sym e))

    dot_by : (P : Expr → Type 0) (r place : Range) (base : Option Expr) (o : Option (Bool × Ident))
        → ((e : Expr) (m : Bool × Ident) → base ≡ Some e → o ≡ Some m → P (member_of false place m r.start e))
        → IfThere P (Pair r base (option_map (member_of false place) o))
    dot_by P r place None o h = record { is = tt }
    dot_by P r place (Some e) None h = record { is = tt }
    dot_by P r place (Some e) (Some m) h = record { is = h e m refl refl }

    holds : {A : Type 0} (P : A → Type 0) (o : Option A) (a : A) → o ≡ Some a → IfThere P o → P a
    holds P o a e h = (go (subst (λ (o : Option _). IfThere P o) e h))
      where
        go : IfThere P (Some a) → P a
        go h = h.is

    dotted : (P : Expr → Type 0) (r place : Range) (base : Option Expr) (token : Option Token) (first : Option Post)
        → first ≡ view.member x place token
        → ((e : Expr) (m : Bool × Ident) → base ≡ Some e → given token (property_of x) ≡ Some m
        → P (member_of false place m r.start e))
        → IfThere P (call.chained_of r base first nil)
    unfolding view.member
    dotted P r place base token first is h =
        of_pair P r base first (subst (λ (first : Option Post). IfThere P (Pair r base first)) (sym is)
        (dot_by P r place base (given token (property_of x)) h))

    pub unknown_none : (r place : Range) (base : Option Expr) (token : Option Token) (first : Option Post) (b : Bool)
        → first ≡ view.member x place token → b ≡ false → IfThere (Known x b) (given token (property_of x))
        → IfThere (KeyIs by None) (call.chained_of r base first nil)
    unknown_none r place base token first b is no_ h =
        dotted (KeyIs by None) r place base token first is (λ e m there name.
        dot_key by e m _ ∙ and_not (not m.0) (shown_expr by e).is_symbol (is_one symbols m.1.sym) _
        (holds (Known x b) _ m name h ∙ no_))

    pub unbound_none : (r place : Range) (base : Option Expr) (token : Option Token) (first : Option Post) (b : Bool)
        → first ≡ view.member x place token → b ≡ false → IfThere (IsSymbol by b) base
        → IfThere (KeyIs by None) (call.chained_of r base first nil)
    unbound_none r place base token first b is no_ h =
        dotted (KeyIs by None) r place base token first is (λ e m there name.
        dot_key by e m _ ∙ not_and (not m.0) (shown_expr by e).is_symbol (is_one symbols m.1.sym) _
        (holds (IsSymbol by b) _ e there h ∙ no_))

    abbrev Itself : Expr → Type 0
    Itself e = (shown_expr by e).key ≡ Some (true, e)

    itself : (o p : Option Expr) → p ≡ o → IfThere Itself o
        → IfThere (λ e. SameKey (key_view.computed p) (shown_expr by e).key) o
    unfolding key_view.computed
    itself None p is h = record { is = tt }
    itself (Some e) p is h = record {
      is = record { key = (true, e); there = ap (λ (o : Option Expr). option_map (λ (e : Expr). (true, e)) o) is; is = h.is };
    }

    pub symbol_told : (chain base first : Item) (place : Range) (token : Option Token) (b c : Bool)
        → post_in (valued x ts first) ≡ view.member x place token → b ≡ true
        → IfThere (Known x b) (given token (property_of x)) → c ≡ true
        → IfThere (IsSymbol by c) (expr_in (valued x ts base))
        → IfThere (λ e. Tells x ts (shown.Symbol chain base first) (shown_expr by e).key)
        (call.chained_of (span_of ts chain.from chain.to) (expr_in (valued x ts base)) (post_in (valued x ts first)) nil)
    symbol_told chain base first place token b c is yes_ h also s =
        itself _ _ refl (dotted Itself (span_of ts chain.from chain.to) place (expr_in (valued x ts base)) token
        (post_in (valued x ts first)) is (λ e m there name.
        dot_key by e m _ ∙ both_and (not m.0) (shown_expr by e).is_symbol (is_one symbols m.1.sym) _
        (holds (Known x b) _ m name h ∙ yes_) (holds (IsSymbol by c) _ e there s ∙ also)))

    -- ---- further parts behind the first: none is `Symbol`
    abbrev Quiet : Post → Type 0
    Quiet post = (start : ℕ) (obj : Expr) → IsSymbol by false (post start obj)

    each_quiet : (r : Range) → EachPost Quiet r
    each_quiet r = record {
      member = λ mark m start obj.
          symbol_by by _ (Expr-F.Member obj mark m.0 m.1 _) (vExpr.rolls-Member obj mark m.0 m.1 _);
      index = λ mark e start obj. symbol_by by _ (Expr-F.Index obj mark e _) (vExpr.rolls-Index obj mark e _);
      call = λ mark ty args start obj.
          symbol_by by _ (Expr-F.Call obj mark ty args _) (vExpr.rolls-Call obj mark ty args _);
      tagged = λ ty tpl start obj. symbol_by by _ (Expr-F.TaggedTpl obj ty tpl _) (vExpr.rolls-TaggedTpl obj ty tpl _);
      non_null = λ start obj. symbol_by by _ (Expr-F.TsNonNull obj _) (vExpr.rolls-TsNonNull obj _);
    }

    quiet_there : (start : ℕ) (obj : Expr) (o : Option Post) → IfSome o Quiet
        → IfThere (λ post. IsSymbol by false (post start obj)) o
    quiet_there start obj None q = record { is = tt }
    quiet_there start obj (Some post) q = record { is = q start obj }

    pub post_quiet : (i : Item) (start : ℕ) (obj : Expr)
        → IfThere (λ post. IsSymbol by false (post start obj)) (post_in (valued x ts i))
    post_quiet i start obj =
        quiet_there start obj _
        (place_posts (λ r. Quiet) x ts each_quiet i.what i.from i.to i.parts.entries.now).is

    pair_symbol : (r : Range) (base : Option Expr) (first : Option Post) (others : Option (List Post)) (after : Bool)
        → ((start : ℕ) (obj : Expr) → IfThere (λ post. IsSymbol by false (post start obj)) first)
        → ((key : Option Key) (start : ℕ) (obj : Expr) → At by key obj
        → IfThere (λ posts. At by (kept after key) (chained start obj posts)) others)
        → (key : Option Key) → IfThere (KeyIs by key) (Pair r base first)
        → IfThere (KeyIs by (kept after key)) (given base (λ base. given first (λ first.
        given others (λ others. Some (chained r.start base (first ∷ others))))))
    pair_symbol r None first others after quiet rest key known = record { is = tt }
    pair_symbol r (Some base) None others after quiet rest key known = record { is = tt }
    pair_symbol r (Some base) (Some first) None after quiet rest key known = record { is = tt }
    pair_symbol r (Some base) (Some first) (Some others) after quiet rest key known = record {
      is = (rest key r.start (first r.start base)
          (record { symbol = (quiet r.start base).is; key = known.is })).is.key;
    }

    chain_keeps : (r : Range) (base : Option Expr) (first : Option Post) (row : Value) (after : Bool)
        → ((start : ℕ) (obj : Expr) → IfThere (λ post. IsSymbol by false (post start obj)) first)
        → Links by true after row → (key : Option Key)
        → IfThere (KeyIs by key) (call.chained_of r base first nil)
        → IfThere (KeyIs by (kept after key)) (call.chained_of r base first row)
    unfolding call.chained_of
    chain_keeps r base first row after quiet links key known =
        pair_symbol r base first (turns (λ turn. post_at turn 0) row) after quiet links key
        (subst (λ (o : Option Expr). IfThere (KeyIs by key) o) (pair_is r base first) known)

    any_key : (o : Option Expr) → (key : Option Key) × IfThere (KeyIs by key) o
    any_key None = (None, record { is = tt })
    any_key (Some e) = ((shown_expr by e).key, record { is = refl })

    pub chain_none : (r : Range) (base : Option Expr) (first : Option Post) (row : Value) (after : Bool)
        → ((start : ℕ) (obj : Expr) → IfThere (λ post. IsSymbol by false (post start obj)) first)
        → after ≡ false → Links by true after row → IfThere (KeyIs by None) (call.chained_of r base first row)
    chain_none r base first row after quiet no_ links =
        let known = any_key (call.chained_of r base first nil) in
        chain_keeps r base first row false quiet (subst (λ (b : Bool). Links by true b row) no_ links) known.0 known.1

    pub chain_sees : (r : Range) (base : Option Expr) (first : Option Post) (row : Value) (after : Bool)
        → ((start : ℕ) (obj : Expr) → IfThere (λ post. IsSymbol by false (post start obj)) first)
        → after ≡ true → Links by true after row
        → Sees by (call.chained_of r base first nil) (call.chained_of r base first row)
    chain_sees r base first row after quiet yes_ links = record {
      leads = chain_keeps r base first row true quiet (subst (λ (b : Bool). Links by true b row) yes_ links);
    }

    -- ---- what is told of the inner one is told of the outer one
    absurd_key : (e : Expr) (a : Option Key) → a ≡ None → a ≡ Some (true, e) → ⊥
    absurd_key e None n s = cc
    absurd_key e (Some key) n s = cc

    told_of : (P : Option Key → Type 0) (inner outer : Option Expr) → Sees by inner outer
        → IfThere (λ e. P (shown_expr by e).key) inner → IfThere (λ e. P (shown_expr by e).key) outer
    told_of P inner None sees h = record { is = tt }
    told_of P None (Some e) sees h =
        absurd (absurd_key e _ (sees.leads None (record { is = tt })).is (sees.leads (Some (true, e)) (record { is = tt })).is)
    told_of P (Some i) (Some e) sees h = record {
      is = subst P (sym (sees.leads (shown_expr by i).key (record { is = refl })).is) h.is;
    }

    pub sees_both : (a b c : Option Expr) → Sees by a b → Sees by b c → Sees by a c
    sees_both a b c f g = record { leads = λ key known. g.leads key (f.leads key known) }

    pub look_of : (it : Look) (inner outer : Option Expr) → Sees by inner outer → LookTells by x ts it inner
        → LookTells by x ts it outer
    look_of (look.Inner i) inner outer sees h = sees_both (expr_in (valued x ts i)) inner outer h sees
    look_of (look.Key it) inner outer sees h = told_of (λ o. Tells x ts it o) inner outer sees h

    pub broken : (o : Option Expr) → IfThere (λ e. Tells x ts shown.Broken (shown_expr by e).key) o
    broken None = record { is = tt }
    broken (Some e) = record { is = tt }

    -- ---- casts
    turned_leads : (cast : Bool) (r : Range) (g : Value) (left : Option Expr) (from : ℕ) → Turned by ts cast g
        → (key : Option Key) → IfThere (KeyIs by key) left
        → IfThere (KeyIs by (kept cast key)) (given left (λ left. turned_by ts r left from g (part g 1)))
    turned_leads cast r g None from turn key known = record { is = tt }
    turned_leads cast r g (Some e) from turn key known = turn key r from e known.is

    pub turned_sees : (cast : Bool) (r : Range) (from : ℕ) (left : Option Expr) (g : Value) → cast ≡ true
        → Turned by ts cast g → Sees by left (operator.turned ts r from left g)
    unfolding operator.turned
    turned_sees cast r from left g yes_ turn = record {
      leads = turned_leads true r g left from (subst (λ (b : Bool). Turned by ts b g) yes_ turn);
    }

    pub turned_none : (cast : Bool) (r : Range) (from : ℕ) (left : Option Expr) (g : Value) → cast ≡ false
        → Turned by ts cast g → IfThere (KeyIs by None) (operator.turned ts r from left g)
    unfolding operator.turned
    turned_none cast r from left g no_ turn =
        let known = any_key left in
        turned_leads false r g left from (subst (λ (b : Bool). Turned by ts b g) no_ turn) known.0 known.1

    asserted_leads : (r : Range) (v : Value) (arg : Option Expr) (key : Option Key) → IfThere (KeyIs by key) arg
        → IfThere (KeyIs by key) (operator.asserted r v arg)
    unfolding operator.asserted
    asserted_leads r v None key known = record { is = tt }
    asserted_leads r v (Some e) key known =
        subst (λ (key : Option Key). IfThere (KeyIs by key) (asserted_by r e k.AsWord (part v 0))) known.is
        (asserted_key by k.AsWord e r (part v 0))

    pub asserted_sees : (r : Range) (v : Value) (arg : Option Expr) → Sees by arg (operator.asserted r v arg)
    asserted_sees r v arg = record { leads = asserted_leads r v arg }

    -- ---- `( )`, names, literals
    paren_leads : (r : Range) (o : Option Expr) (key : Option Key) → IfThere (KeyIs by key) o
        → IfThere (KeyIs by key) (primary.paren r o)
    unfolding primary.paren
    paren_leads r None key known = record { is = tt }
    paren_leads r (Some e) key known = record {
      is = key_by by _ (Expr-F.Paren e r) (vExpr.rolls-Paren e r) ∙ known.is;
    }

    pub paren_sees : (r : Range) (o : Option Expr) → Sees by o (primary.paren r o)
    paren_sees r o = record { leads = paren_leads r o }

    ident_itself : (o : Option Token) → IfThere Itself (primary.ident x o)
    unfolding primary.ident
    ident_itself o =
        made_there Itself (λ (t : Token). vExpr.Ident (ident_of x t)) o
        (λ t. key_by by _ (Expr-F.Expr::Ident (ident_of x t)) (vExpr.rolls-Ident (ident_of x t)))

    pub name_told : (i : Item) (o : Option Token) → expr_in (valued x ts i) ≡ primary.ident x o
        → IfThere (λ e. Tells x ts (shown.Name i) (shown_expr by e).key) (expr_in (valued x ts i))
    name_told i o is =
        itself (expr_in (valued x ts i)) (expr_in (valued x ts i)) refl
        (subst (λ (o : Option Expr). IfThere Itself o) (sym is) (ident_itself o))

    pub str_told : (at : ℕ) → IfThere (λ e. Tells x ts (shown.Str at) (shown_expr by e).key)
        (primary.str x (slice_get ts at))
    unfolding primary.str key_view.str
    str_told at = go (slice_get ts at)
      where
        go : (o : Option Token)
            → IfThere (λ e. SameKey (option_map (λ t. (false, vExpr.Lit (vLit.Str (str_of x t)))) o) (shown_expr by e).key)
            (option_map (λ t. vExpr.Lit (vLit.Str (str_of x t))) o)
        go None = record { is = tt }
        go (Some t) = record {
          is = record {
            key = (false, vExpr.Lit (vLit.Str (str_of x t)));
            there = refl;
            is = key_by by _ (Expr-F.Lit (vLit.Str (str_of x t))) (vExpr.rolls-Lit (vLit.Str (str_of x t)));
          };
        }

    number_by : (t : Token) (o : Option Lit) → Numeric x t o
        → IfThere (λ e. SameKey (option_map (λ lit. (false, vExpr.Lit lit)) o) (shown_expr by e).key) (option_map vExpr.Lit o)
    number_by t o (number a) = record {
      is = record {
        key = (false, vExpr.Lit (vLit.Num (number_of x t)));
        there = refl;
        is = key_by by _ (Expr-F.Lit (vLit.Num (number_of x t))) (vExpr.rolls-Lit (vLit.Num (number_of x t)));
      };
    }
    number_by t o (big a b) = record {
      is = record {
        key = (false, vExpr.Lit (vLit.BigInt (big_of x t)));
        there = refl;
        is = key_by by _ (Expr-F.Lit (vLit.BigInt (big_of x t))) (vExpr.rolls-Lit (vLit.BigInt (big_of x t)));
      };
    }
    number_by t o none = record { is = tt }

    pub number_told : (at : ℕ) → IfThere (λ e. Tells x ts (shown.Number at) (shown_expr by e).key)
        (primary.number x (slice_get ts at))
    unfolding primary.number key_view.number
    number_told at = go (slice_get ts at)
      where
        go : (o : Option Token)
            → IfThere (λ e. SameKey (option_map (λ lit. (false, vExpr.Lit lit)) (given o (numeric_of x))) (shown_expr by e).key)
            (option_map vExpr.Lit (given o (numeric_of x)))
        go None = record { is = tt }
        go (Some t) = number_by t (numeric_of x t) (numeric x t)

    -- ---- at a place of a row
    pub node_none : (i : Item) (label : NodeKind) → i.what ≡ vWhat.Node label → is_one_of keyed label ≡ false
        → IfThere (KeyIs by None) (expr_in (valued x ts i))
    node_none i label is h =
        expr_place (KeyIs by None) x ts i (vWhat.Node label) is
        (node_key by x ts label i.from i.to i.parts.entries.now h)

    pub lean_at : (it : Look) (i : Item) (lean : Lean) → i.what ≡ vWhat.Lean lean
        → LookTells by x ts it (expr_in (leant x ts lean i.from (parts_of x ts i.parts.entries.now)))
        → LookTells by x ts it (expr_in (valued x ts i))
    lean_at it i lean is h =
        subst (λ (w : What). LookTells by x ts it
        (expr_in (made x ts w i.from i.to (held x ts i.parts.entries.now) (parts_of x ts i.parts.entries.now)))) (sym is) h
