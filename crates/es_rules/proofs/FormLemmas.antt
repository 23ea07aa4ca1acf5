-- What the steps of a form's reader write of what the table's reader answers.
use Rattle.std.specs.Prelude.{List, [], ◌∷◌, ◌++◌, Result, Ok, Err, Bool, true, false, max, leb}
use Rattle.std.proofs.Common.{◌≡◌, ℕ, suc, ◌+◌, length, refl, sym, ap, ◌∙◌, subst, arith}
use Rattle.std.proofs.lemmas.List.{append-nil, append_assoc}
use Rattle.es_token.specs.declared.token.TokenKind.{TokenKind}
use Rattle.grammar_theory.specs.declared.error.SyntaxError.{SyntaxError}
use Rattle.grammar_theory.specs.declared.error.SyntaxError.TheVariants.{OutOfMemory}
use Rattle.grammar_theory.specs.Key.{Key, TokenTest, seen, has_kind, is}
use Rattle.grammar_theory.specs.Productions.{Predicate, LeafKind, Predict, test, Rhs, done, tok, punct, row, opt, many, alt, when_, where_}
use Rattle.grammar_theory.specs.Fits.{most_nodes}
use Rattle.grammar_theory.specs.Reader.{Out, nothing, gives, and_then, changed, either, read_turns}
use Rattle.grammar_theory.proofs.OutLemmas.{then_gives, change_gives, only_if_true}
use Rattle.es_grammar.specs.declared.rows.NodeKind.{NodeKind}
use Rattle.es_grammar.specs.declared.cst.tree.Cst.{Cst}
use Rattle.es_grammar.specs.declared.cst.tree.Cst.TheVariants as vCst
use Rattle.es_grammar.specs.cst.Slim.{tree_in}
use Rattle.es_syntax.specs.declared.entry.What.{What}
use Rattle.es_syntax.specs.declared.entry.What.TheVariants as vWhat
use Rattle.es_syntax.specs.declared.entry.Entry.{Entry}
use Rattle.es_syntax.specs.Trees.{trees_in, tree_by, first_tree}
use Rattle.es_syntax.specs.Written.{headed, closed, opened}
use Rattle.es_syntax.specs.Forest.{Forest, none, node, entries_of, kept_of, beside, Keeps}
use Rattle.es_syntax.proofs.Forests.{entries_beside, trees_beside, keeps_all, keeps_before, keeps_less}
use Rattle.es_syntax.proofs.Written.{closed_at}
use Rattle.es_rules.specs.declared.cursor.Cursor.{Cursor}
use Rattle.es_rules.specs.Bounded.{Read, makes, form_at, node_at}
use Rattle.es_rules.specs.Steps.{single, group, with_more, with_closed, Writes, IsTelling, IsRefused, IsRead, IsPart, Adds, higher_of}

-- ---- what was written

pub writes_none : (keeps : Bool) (old : List Entry) → Writes keeps old old []
unfolding entries_of kept_of
writes_none true old = (none, sym (append-nil old), refl)
writes_none false old = refl

pub writes_both : (keeps : Bool) (old mid new : List Entry) (ts us : List Cst) → Writes keeps old mid ts
    → Writes keeps mid new us → Writes keeps old new (ts ++ us)
writes_both true old mid new ts us a b = (
  beside a.0 b.0,
  b.1 ∙ (ap (λ (es : List Entry). es ++ entries_of b.0) a.1
      ∙ (append_assoc old (entries_of a.0) (entries_of b.0)
      ∙ ap (λ (es : List Entry). old ++ es) (sym (entries_beside a.0 b.0)))),
  trees_beside a.0 b.0 ∙ (ap (λ (xs : List Cst). xs ++ trees_in (kept_of b.0)) a.2
      ∙ ap (λ (xs : List Cst). ts ++ xs) b.2),
)
writes_both false old mid new ts us a b = b ∙ a

-- a node without parts
pub writes_leaf : (keeps : Bool) (w : What) (f t : ℕ) (old new : List Entry)
    → new ≡ with_more keeps old (headed w f t [])
    → Writes keeps old new (tree_by w f t [] ∷ [])
unfolding entries_of kept_of
writes_leaf true w f t old new e = (node w f t none none, e, refl)
writes_leaf false w f t old new e = e

-- a node whose entry stood behind some entries, and was closed behind its parts
pub closes_over : (w : What) (f t at : ℕ) (old mid new : List Entry) (h : Entry) (s : Forest) → at ≡ length old
    → mid ≡ (old ++ h ∷ []) ++ entries_of s → new ≡ closed w f t at mid → new ≡ old ++ entries_of (node w f t s none)
unfolding entries_of
closes_over w f t at old mid new h s place parts e =
    e ∙ (ap (closed w f t at) parts
    ∙ (closed_at w f t at old (entries_of s) h place
    ∙ ap (λ (es : List Entry). old ++ es) (sym (append-nil (headed w f t (entries_of s))))))

-- one that was opened there
pub closes : (w : What) (f t at : ℕ) (old mid new : List Entry) (s : Forest) → at ≡ length old
    → mid ≡ (old ++ opened) ++ entries_of s → new ≡ closed w f t at mid → new ≡ old ++ entries_of (node w f t s none)
closes w f t at old mid new s place parts e =
    closes_over w f t at old mid new (record { what = vWhat.Parts; from = 0; to = 0; size = 0 }) s place parts e

-- these trees, as the parts of a node that was opened before them and closed behind them
pub writes_node : (keeps : Bool) (w : What) (f t at : ℕ) (old mid new after : List Entry) (ts : List Cst)
    → at ≡ length old
    → mid ≡ with_more keeps old opened → Writes keeps mid new ts → after ≡ with_closed keeps w f t at new
    → (make : List Cst → Cst)
    → ((s : Forest) → trees_in (kept_of (node w f t s none)) ≡ make (trees_in (kept_of s)) ∷ [])
    → Writes keeps old after (make ts ∷ [])
writes_node true w f t at old mid new after ts place e written shut make made = (
  node w f t written.0 none,
  closes w f t at old new after written.0 place
      (written.1 ∙ ap (λ (es : List Entry). es ++ entries_of written.0) e) shut,
  made written.0 ∙ ap (λ (us : List Cst). make us ∷ []) written.2,
)
writes_node false w f t at old mid new after ts place e written shut make made = shut ∙ (written ∙ e)

pub keeps_written : (keeps : Bool) (old new : List Entry) (ts : List Cst) → Writes keeps old new ts → Keeps old new
keeps_written true old new ts w =
    subst (λ (es : List Entry). Keeps old es) (sym w.1) (keeps_before old (entries_of w.0))
keeps_written false old new ts w = subst (λ (es : List Entry). Keeps old es) (sym w) (keeps_all old)

pub keeps_past : (keeps : Bool) (old mid new : List Entry) (ts : List Cst) → Writes keeps old mid ts → Keeps mid new
    → Keeps old new
keeps_past true old mid new ts w k =
    keeps_less old (entries_of w.0) new (subst (λ (es : List Entry). Keeps es new) w.1 k)
keeps_past false old mid new ts w k = subst (λ (es : List Entry). Keeps es new) w k

pub keeps_opened : (keeps : Bool) (old mid new : List Entry) → mid ≡ with_more keeps old opened → Keeps mid new
    → Keeps old new
keeps_opened true old mid new e k = keeps_less old opened new (subst (λ (es : List Entry). Keeps es new) e k)
keeps_opened false old mid new e k = subst (λ (es : List Entry). Keeps es new) e k

-- memory runs out only where entries are kept
pub no_memory : (keeps : Bool) (e : SyntaxError) → keeps ≡ true → e ≡ OutOfMemory → IsTelling keeps e → ⊥
no_memory true e kept is telling = telling is
no_memory false e kept is telling = let bad : ⊥ = cc in bad

pub keeps_same : (old new : List Entry) → new ≡ old → Keeps old new
keeps_same old new e = subst (λ (es : List Entry). Keeps old es) (sym e) (keeps_all old)

-- what is made of a part, and of those after it
pub cons_same : (q : Read) (n : ℕ) (ts : List Cst) (h : ℕ) → q.height ≡ n
    → makes.of_cons q (group ts h) ≡ group (tree_in q.value ∷ ts) (max n h)
cons_same q n ts h height = ap (λ k. group (tree_in q.value ∷ ts) (max k h)) height

-- nothing is read of a part, and so nothing at all
pub nothing_then : (out : Out Read) (f : ℕ → Out Read) → out ≡ nothing
    → and_then out (λ q here. changed (makes.of_cons q) (f here)) ≡ nothing
nothing_then out f e = rw e refl

-- a token that has no nodes
no_higher : (r : Result ℕ SyntaxError) → higher_of 0 r ≡ r
no_higher (Ok h) = let e : max 0 h ≡ h = omega arith in ap Ok e
no_higher (Err e) = refl

module _ (keeps : Bool) where
  -- ---- errors that are handed on

  module _ (out : Out Read) (old : List Entry) (new : Cursor) (r : Result ℕ SyntaxError) (y e : SyntaxError) where
    pub refused : r ≡ Err y → y ≡ e → IsRefused keeps out old new.row e → Adds keeps out old new r
    refused is_err same told =
        let P : Result ℕ SyntaxError → Type 0 = λ r. Adds keeps out old new r in
        subst P (sym (is_err ∙ ap Err same)) told

    pub part_refused : r ≡ Err y → y ≡ e → IsRefused keeps out old new.row e → IsPart keeps out old new r
    part_refused is_err same told =
        let P : Result ℕ SyntaxError → Type 0 = λ r. IsPart keeps out old new r in
        subst P (sym (is_err ∙ ap Err same)) told

    pub read_refused : r ≡ Err y → y ≡ e → IsRefused keeps out old new.row e → IsRead keeps out old new r
    read_refused is_err same told =
        let P : Result ℕ SyntaxError → Type 0 = λ r. IsRead keeps out old new r in
        subst P (sym (is_err ∙ ap Err same)) told

  -- ---- a part, and more behind it

  -- a tree is a part
  pub read_part : (out : Out Read) (old : List Entry) (new : Cursor) (h : ℕ) → IsRead keeps out old new (Ok h)
      → IsPart keeps out old new (Ok h)
  read_part out old new h read = (single read.0 h, read.1, refl, read.2)

  pub part_then : (out : Out Read) (f : ℕ → Out Read) (old : List Entry) (mid new : Cursor) (h : ℕ)
      (r : Result ℕ SyntaxError) → IsPart keeps out old mid (Ok h) → Adds keeps (f mid.at) mid.row new r
      → Adds keeps (and_then out (λ q here. changed (makes.of_cons q) (f here))) old new (higher_of h r)
  part_then out f old mid new h (Ok g) part more = (
    tree_in part.0.value ∷ more.0,
    writes_both keeps old mid.row new.row (tree_in part.0.value ∷ []) more.0 part.1 more.1,
    then_gives out (λ q here. changed (makes.of_cons q) (f here)) part.0 mid.at
        (gives (group (tree_in part.0.value ∷ more.0) (max h g)) new.at) part.3
        (change_gives (makes.of_cons part.0) (f mid.at) (group more.0 g)
        (group (tree_in part.0.value ∷ more.0) (max h g)) new.at more.2 (cons_same part.0 h more.0 g part.2)),
  )
  part_then out f old mid new h (Err e) part more = (
    keeps_past keeps old mid.row new.row (tree_in part.0.value ∷ []) part.1 more.0,
    λ memory. then_gives out (λ q here. changed (makes.of_cons q) (f here)) part.0 mid.at nothing part.3
        (ap (changed (makes.of_cons part.0)) (more.1 memory)),
  )

  module _ {Row : Type 0} (K : List Key) (below : Row → ℕ → Out Read) where
    pub adds_done : (old : List Entry) (new : Cursor) → new.row ≡ old
        → Adds keeps (form_at K below done new.at) old new (Ok 0)
    unfolding form_at
    adds_done old new e =
        ([], subst (λ (es : List Entry). Writes keeps old es []) (sym e) (writes_none keeps old), refl)

    module _ (f : Rhs Row) (at : ℕ) (old : List Entry) (new : Cursor) (r : Result ℕ SyntaxError) where
      pub adds_punct : (k : TokenKind) (mid : List Entry) → is k (seen K at) ≡ true → mid ≡ old
          → Adds keeps (form_at K below f (at + 1)) mid new r → Adds keeps (form_at K below (punct k f) at) old new r
      unfolding form_at
      adds_punct k mid here same more =
          go r (subst (λ (es : List Entry). Adds keeps (form_at K below f (at + 1)) es new r) same more)
        where
          go : (r : Result ℕ SyntaxError) → Adds keeps (form_at K below f (at + 1)) old new r
              → Adds keeps (form_at K below (punct k f) at) old new r
          go (Ok h) more = (
            more.0,
            more.1,
            only_if_true (is k (seen K at)) (changed (makes.of_mark at) (form_at K below f (at + 1)))
                (gives (group more.0 h) new.at) here
                (change_gives (makes.of_mark at) (form_at K below f (at + 1)) (group more.0 h) (group more.0 h)
                new.at more.2 refl),
          )
          go (Err e) more = (
            more.0,
            λ memory. only_if_true (is k (seen K at)) (changed (makes.of_mark at) (form_at K below f (at + 1))) nothing
                here
                (ap (changed (makes.of_mark at)) (more.1 memory)),
          )

      pub adds_tok : (s : LeafKind) (may : TokenKind → Bool) (before mid : List Entry) → has_kind may (seen K at) ≡ true
          → before ≡ old → mid ≡ with_more keeps before (headed vWhat.Leaf at (at + 1) [])
          → Adds keeps (form_at K below f (at + 1)) mid new r → Adds keeps (form_at K below (tok s may f) at) old new r
      unfolding form_at
      adds_tok s may before mid here same written more =
          let leaf = writes_leaf keeps vWhat.Leaf at (at + 1) old mid
          (written ∙ ap (λ (es : List Entry). with_more keeps es (headed vWhat.Leaf at (at + 1) [])) same) in
          let part : IsPart keeps (gives (makes.of_leaf s at) (at + 1)) old (record { at = at + 1; row = mid }) (Ok 0) =
          (makes.of_leaf s at, leaf, refl, refl) in
          let whole = part_then (gives (makes.of_leaf s at) (at + 1)) (form_at K below f) old
          (record { at = at + 1; row = mid }) new 0 r part more in
          let P : Out Read → Type 0 = λ o. Adds keeps o old new (higher_of 0 r) in
          subst (λ (r : Result ℕ SyntaxError). Adds keeps (form_at K below (tok s may f) at) old new r) (no_higher r)
          (subst P (sym (only_if_true (has_kind may (seen K at))
          (changed (makes.of_cons (makes.of_leaf s at)) (form_at K below f (at + 1)))
          (changed (makes.of_cons (makes.of_leaf s at)) (form_at K below f (at + 1))) here refl)) whole)

      pub adds_row : (q : Row) (mid : Cursor) (h : ℕ) → IsRead keeps (below q at) old mid (Ok h)
          → Adds keeps (form_at K below f mid.at) mid.row new r
          → Adds keeps (form_at K below (row q f) at) old new (higher_of h r)
      unfolding form_at
      adds_row q mid h read more =
          part_then (below q at) (form_at K below f) old mid new h r (read_part (below q at) old mid h read) more

      pub adds_opt : (c : Predict) (g : Rhs Row) (mid : Cursor) (h : ℕ)
          → IsPart keeps (either (test c K at) (form_at K below g at) (gives makes.of_nil at)) old mid (Ok h)
          → Adds keeps (form_at K below f mid.at) mid.row new r
          → Adds keeps (form_at K below (opt c g f) at) old new (higher_of h r)
      unfolding form_at
      adds_opt c g mid h part more =
          part_then (either (test c K at) (form_at K below g at) (gives makes.of_nil at)) (form_at K below f) old mid
          new
          h r part more

      pub adds_many : (c : Predict) (g : Rhs Row) (mid : Cursor) (h : ℕ)
          → IsPart keeps (read_turns makes K (test c) (form_at K below g) (length K) at) old mid (Ok h)
          → Adds keeps (form_at K below f mid.at) mid.row new r
          → Adds keeps (form_at K below (many c g f) at) old new (higher_of h r)
      unfolding form_at
      adds_many c g mid h part more =
          part_then (read_turns makes K (test c) (form_at K below g) (length K) at) (form_at K below f) old mid new
          h r part more

      pub adds_alt : (t : TokenTest) (a b : Rhs Row) (mid : Cursor) (h : ℕ)
          → IsPart keeps (either (t (seen K at)) (form_at K below a at) (form_at K below b at)) old mid (Ok h)
          → Adds keeps (form_at K below f mid.at) mid.row new r
          → Adds keeps (form_at K below (alt t a b f) at) old new (higher_of h r)
      unfolding form_at
      adds_alt t a b mid h part more =
          part_then (either (t (seen K at)) (form_at K below a at) (form_at K below b at)) (form_at K below f) old mid
          new h r part more

      pub adds_when : (t : TokenTest) → t (seen K at) ≡ true → Adds keeps (form_at K below f at) old new r
          → Adds keeps (form_at K below (when_ t f) at) old new r
      unfolding form_at
      adds_when t here more = rw here more

      pub adds_where : (t : Predicate) → t K at ≡ true → Adds keeps (form_at K below f at) old new r
          → Adds keeps (form_at K below (where_ t f) at) old new r
      unfolding form_at
      adds_where t here more = rw here more

    module _ (f : Rhs Row) (at : ℕ) where
      pub no_punct : (k : TokenKind) → is k (seen K at) ≡ false → form_at K below (punct k f) at ≡ nothing
      unfolding form_at
      no_punct k e = rw e refl

      pub no_tok : (s : LeafKind) (may : TokenKind → Bool) → has_kind may (seen K at) ≡ false
          → form_at K below (tok s may f) at ≡ nothing
      unfolding form_at
      no_tok s may e = rw e refl

      pub no_row : (q : Row) → below q at ≡ nothing → form_at K below (row q f) at ≡ nothing
      unfolding form_at
      no_row q e = nothing_then (below q at) (form_at K below f) e

      pub no_opt : (c : Predict) (g : Rhs Row)
          → either (test c K at) (form_at K below g at) (gives makes.of_nil at) ≡ nothing
          → form_at K below (opt c g f) at ≡ nothing
      unfolding form_at
      no_opt c g e = nothing_then (either (test c K at) (form_at K below g at) (gives makes.of_nil at))
          (form_at K below f) e

      pub no_many : (c : Predict) (g : Rhs Row)
          → read_turns makes K (test c) (form_at K below g) (length K) at ≡ nothing
          → form_at K below (many c g f) at ≡ nothing
      unfolding form_at
      no_many c g e = nothing_then (read_turns makes K (test c) (form_at K below g) (length K) at) (form_at K below f) e

      pub no_alt : (t : TokenTest) (a b : Rhs Row)
          → either (t (seen K at)) (form_at K below a at) (form_at K below b at) ≡ nothing
          → form_at K below (alt t a b f) at ≡ nothing
      unfolding form_at
      no_alt t a b e = nothing_then (either (t (seen K at)) (form_at K below a at) (form_at K below b at))
          (form_at K below f) e

      pub no_when : (t : TokenTest) → t (seen K at) ≡ false → form_at K below (when_ t f) at ≡ nothing
      unfolding form_at
      no_when t e = rw e refl

      pub no_where : (t : Predicate) → t K at ≡ false → form_at K below (where_ t f) at ≡ nothing
      unfolding form_at
      no_where t e = rw e refl

  -- a part that is absent
  pub absent_part : (t : Bool) (o : Out Read) (old : List Entry) (at : ℕ) (new : Cursor) → t ≡ false → new.at ≡ at
      → new.row ≡ with_more keeps old (headed vWhat.Parts 0 0 [])
      → IsPart keeps (either t o (gives makes.of_nil at)) old new (Ok 0)
  absent_part true o old at new e same written = absurd (let bad : ⊥ = cc in bad)
  absent_part false o old at new e same written =
      (makes.of_nil, writes_leaf keeps vWhat.Parts 0 0 old new.row written, refl, ap (gives makes.of_nil) (sym same))

  -- parts that were read, as one part
  pub group_part : (out : Out Read) (old mid : List Entry) (at h : ℕ) (new after : Cursor)
      → at ≡ length old → mid ≡ with_more keeps old opened → Adds keeps out mid new (Ok h) → after.at ≡ new.at
      → after.row ≡ with_closed keeps vWhat.Parts 0 0 at new.row → IsPart keeps out old after (Ok h)
  unfolding kept_of
  group_part out old mid at h new after place e adds same shut = (
    group adds.0 h,
    writes_node keeps vWhat.Parts 0 0 at old mid new.row after.row adds.0 place e adds.1 shut vCst.Parts (λ s. refl),
    refl,
    adds.2 ∙ ap (gives (group adds.0 h)) (sym same),
  )

  -- a part can't be read
  pub group_refused : (out : Out Read) (old mid new : List Entry) (e : SyntaxError) → mid ≡ with_more keeps old opened
      → IsRefused keeps out mid new e → IsRefused keeps out old new e
  group_refused out old mid new e written told = (keeps_opened keeps old mid new written told.0, told.1)

  -- memory ran out before anything was written, or behind what was
  pub lost : (out : Out Read) (old new : List Entry) (e : SyntaxError) → keeps ≡ true → e ≡ OutOfMemory → Keeps old new
      → IsRefused keeps out old new e
  lost out old new e kept is stands = (stands, λ telling. absurd (no_memory keeps e kept is telling))

  -- ---- nodes

  module _ (out : Out Read) (l : NodeKind) (from : ℕ) (old mid : List Entry) (at h : ℕ) (new : Cursor) where
    -- a node of parts that were read
    pub made_read : (n : ℕ) (after : Cursor) → at ≡ length old → mid ≡ with_more keeps old opened
        → Adds keeps out mid new (Ok h) → n ≡ suc h → leb (suc h) most_nodes ≡ true → after.at ≡ new.at
        → after.row ≡ with_closed keeps (vWhat.Node l) from new.at at new.row
        → IsRead keeps (and_then out (λ ps to. node_at l from to ps)) old after (Ok n)
    unfolding kept_of node_at
    made_read n after place e adds count few same shut = (
      vCst.Node l from new.at adds.0,
      writes_node keeps (vWhat.Node l) from new.at at old mid new.row after.row adds.0 place e adds.1 shut
          (vCst.Node l from new.at) (λ s. refl),
      then_gives out (λ ps to. node_at l from to ps) (group adds.0 h) new.at
          (gives (single (vCst.Node l from new.at adds.0) n) after.at) adds.2
          (only_if_true (leb (suc h) most_nodes) (gives (single (vCst.Node l from new.at adds.0) (suc h)) new.at)
          (gives (single (vCst.Node l from new.at adds.0) n) after.at) few
          (ap (λ k. gives (single (vCst.Node l from new.at adds.0) k) new.at) (sym count)
          ∙ ap (gives (single (vCst.Node l from new.at adds.0) n)) (sym same))),
    )

    -- too many nodes on a path
    pub made_many : (e : SyntaxError) → mid ≡ with_more keeps old opened → Adds keeps out mid new (Ok h)
        → leb (suc h) most_nodes ≡ false → IsRefused keeps (and_then out (λ ps to. node_at l from to ps)) old new.row e
    unfolding node_at
    made_many e written adds past = (
      keeps_opened keeps old mid new.row written (keeps_written keeps mid new.row adds.0 adds.1),
      λ memory. then_gives out (λ ps to. node_at l from to ps) (group adds.0 h) new.at nothing adds.2 (rw past refl),
    )

  pub made_refused : (out : Out Read) (f : Read → ℕ → Out Read) (old mid new : List Entry) (e : SyntaxError)
      → mid ≡ with_more keeps old opened → IsRefused keeps out mid new e → IsRefused keeps (and_then out f) old new e
  made_refused out f old mid new e written told = (
    keeps_opened keeps old mid new written told.0,
    λ memory. ap (λ o. and_then o f) (told.1 memory),
  )

  -- a node in another role
  pub role_read : (out : Out Read) (l : NodeKind) (old mid : List Entry) (at h : ℕ) (new after : Cursor)
      → at ≡ length old → mid ≡ with_more keeps old opened → IsRead keeps out mid new (Ok h) → after.at ≡ new.at
      → after.row ≡ with_closed keeps (vWhat.Role l) 0 0 at new.row
      → IsRead keeps (changed (makes.of_via l) out) old after (Ok h)
  unfolding kept_of
  role_read out l old mid at h new after place e read same shut = (
    vCst.Role l read.0,
    writes_node keeps (vWhat.Role l) 0 0 at old mid new.row after.row (read.0 ∷ []) place e read.1 shut
        (λ ts. vCst.Role l (first_tree ts)) (λ s. refl),
    change_gives (makes.of_via l) out (single read.0 h) (single (vCst.Role l read.0) h) new.at read.2 refl
        ∙ ap (gives (single (vCst.Role l read.0) h)) (sym same),
  )

  pub role_refused : (out : Out Read) (l : NodeKind) (old mid new : List Entry) (e : SyntaxError)
      → mid ≡ with_more keeps old opened → IsRefused keeps out mid new e
      → IsRefused keeps (changed (makes.of_via l) out) old new e
  role_refused out l old mid new e written told = (
    keeps_opened keeps old mid new written told.0,
    λ memory. ap (changed (makes.of_via l)) (told.1 memory),
  )
