-- The attributes of the sites in the parts of a plain tree, over two texts of which no literal has changed that isn't a
-- site's.
use Rattle.std.specs.Prelude.{ℕ, zero, suc, Bool, true, false, ◌&&◌, List, [], ◌++◌, Option, Some, None, option_map, slice_get, bytes_eq, codes, if◌then◌else◌}
use Rattle.std.proofs.Common.{◌≡◌, ◌≤◌, refl, sym, ap, ◌∙◌, subst, arith}
use Rattle.es_token.specs.declared.token.Token.{Token}
use Rattle.es_ast.specs.declared.ts.leaf.Str.{Str}
use Rattle.es_grammar.specs.declared.rows.NodeKind.{NodeKind}
use Rattle.es_grammar.specs.declared.rows.NodeKind.TheVariants as l
use Rattle.es_site.specs.declared.site.Attribute.{Attribute}
use Rattle.es_site.specs.declared.site.Attribute.TheVariants.{Absent, Named, Unknown}
use Rattle.es_site.specs.Attributes.{named}
use Rattle.es_site.specs.Sites.{Found}
use Rattle.es_lowering.specs.Texts.{str_of}
use Rattle.es_law_sites.specs.plain.Part.{Part, absent, nil, more, token, node, part, as_group, group, found, at, inside, each, turns}
use Rattle.es_law_sites.specs.plain.Own.{token_in, str_in, spelt, last_type, clause_attribute, attribute_in, src_by, src_in, is_word_key, same_word, same_str, key_says, is_plain, given_in, are_plain, last_given, type_by, type_in, with_by, with_in, options_by, options_of, options_in}
use Rattle.source_text.specs.declared.text_changes.change.TextChange.{TextChange}
use Rattle.es_law_edits.proofs.sites.Stands.{touched, Apart, Safe, safe_left, safe_right, narrower}
use Rattle.es_law_edits.proofs.sites.Parts.{Moves, Linked, Alike, gone, end, pair, leaf, made, place, up, last, part_alike, group_alike, grouped, ahead, at_run, all, each_moves}

abbrev pub value_in : Option Str → Option (List ℕ)
value_in o = option_map (λ (s : Str). s.value) o

-- what is read of a token in attributes, the same in both texts
pub record Reads (x y : List ℕ) (ts us : List Token) (o u : Option Token) : Type 0 where
  pub value : value_in (option_map (str_of y) u) ≡ value_in (option_map (str_of x) o)
  pub spells : (word : List ℕ) → spelt y us word u ≡ spelt x ts word o
  pub word : (word : List ℕ) → same_word y us word u ≡ same_word x ts word o

-- it is so of each token that has the range of no change
abbrev pub Keeps : List TextChange → List ℕ → List Token → List ℕ → List Token → Type 0
Keeps changes x ts y us =
    (n : ℕ) → ((t : Token) → slice_get ts n ≡ Some t → touched changes t.range ≡ true → ⊥)
    → Reads x y ts us (slice_get ts n) (slice_get us n)

-- ---- parts of which all tokens read the same
data Kin (x : List ℕ) (ts : List Token) (y : List ℕ) (us : List Token) : Part → Part → Type 0 where
  none_there : Kin x ts y us absent absent
  no_more : Kin x ts y us nil nil
  and_more : {v w p q : Part} → Kin x ts y us v w → Kin x ts y us p q → Kin x ts y us (more v p) (more w q)
  one_token : (n : ℕ) → Reads x y ts us (slice_get ts n) (slice_get us n) → Kin x ts y us (token n) (token n)
  one_node : (label : NodeKind) {p q : Part} {s t : Found} → Kin x ts y us p q
      → Kin x ts y us (node label p s) (node label q t)

module _ (changes : List TextChange) (x : List ℕ) (ts : List Token) (y : List ℕ) (us : List Token) (apart : Apart ts)
    (keeps : Keeps changes x ts y us) where
  abbrev Same : ℕ → ℕ → Part → Part → Type 0
  Same a b p q = Alike changes x ts a b p q

  abbrev Only : ℕ → ℕ → Found → Type 0
  Only a b sites = Safe changes ts a b sites

  -- where no token has the range of a change
  kin : (a b : ℕ) (p q : Part) → Same a b p q → Only a b [] → Kin x ts y us p q
  kin a b p q (gone le) safe = none_there
  kin a b p q (end le) safe = no_more
  kin a b p q (pair {m = m} h i) safe =
      let low : a ≤ m = ahead h in
      let high : m ≤ b = ahead i in
      and_more (kin a m _ _ h (narrower changes ts apart a a m b [] (omega arith) high safe))
      (kin m b _ _ i (narrower changes ts apart a m b b [] low (omega arith) safe))
  kin a b p q (leaf n low high) safe = one_token n (keeps n (λ t at touch. safe n t low high at touch))
  kin a b p q (made {from = from} {to = to} label low high mid link h m) safe =
      one_node label (kin from to _ _ h (narrower changes ts apart a from to b [] low high safe))

  -- ---- what is read of them
  kin_part : (n : ℕ) (p q : Part) → Kin x ts y us p q → Kin x ts y us (part p n) (part q n)
  kin_part zero p q (and_more h i) = h
  kin_part (suc n) p q (and_more h i) = kin_part n _ _ i
  kin_part n p q none_there = none_there
  kin_part n p q no_more = none_there
  kin_part n p q (one_token k r) = none_there
  kin_part n p q (one_node label h) = none_there

  kin_group : (p q : Part) → Kin x ts y us p q → Kin x ts y us (as_group p) (as_group q)
  kin_group p q none_there = no_more
  kin_group p q no_more = no_more
  kin_group p q (and_more h i) = and_more h i
  kin_group p q (one_token k r) = no_more
  kin_group p q (one_node label h) = no_more

  value_same : (p q : Part) → Kin x ts y us p q → value_in (str_in y us q) ≡ value_in (str_in x ts p)
  value_same p q none_there = refl
  value_same p q no_more = refl
  value_same p q (and_more h i) = refl
  value_same p q (one_token n r) = r.value
  value_same p q (one_node label h) = refl

  spelt_same : (word : List ℕ) (p q : Part) → Kin x ts y us p q
      → spelt y us word (token_in y us q) ≡ spelt x ts word (token_in x ts p)
  spelt_same word p q none_there = refl
  spelt_same word p q no_more = refl
  spelt_same word p q (and_more h i) = refl
  spelt_same word p q (one_token n r) = r.spells word
  spelt_same word p q (one_node label h) = refl

  word_same : (word : List ℕ) (p q : Part) → Kin x ts y us p q
      → same_word y us word (token_in y us q) ≡ same_word x ts word (token_in x ts p)
  word_same word p q none_there = refl
  word_same word p q no_more = refl
  word_same word p q (and_more h i) = refl
  word_same word p q (one_token n r) = r.word word
  word_same word p q (one_node label h) = refl

  -- ---- the clause of a declaration
  chosen : (b : Bool) (o m p q : Option Str) → value_in m ≡ value_in o → value_in q ≡ value_in p
      → value_in (if b then m else q) ≡ value_in (if b then o else p)
  chosen true o m p q e f = e
  chosen false o m p q e f = f

  either : (b c : Bool) (o m p q : Option Str) → c ≡ b → value_in m ≡ value_in o → value_in q ≡ value_in p
      → value_in (if c then m else q) ≡ value_in (if b then o else p)
  either b c o m p q is e f =
      let P : Bool → Type 0 = λ k. value_in (if k then m else q) ≡ value_in (if b then o else p) in
      subst P (sym is) (chosen b o m p q e f)

  abbrev next : List ℕ → List Token → Part → Option Str → Option Str
  next z vs turn before =
      if spelt z vs (codes "type") (token_in z vs (part (group (as_group turn) 0) 0))
      then str_in z vs (part (as_group turn) 1) else before

  next_same : (o m : Option Str) (p q : Part) → value_in m ≡ value_in o → Kin x ts y us p q
      → value_in (next y us q m) ≡ value_in (next x ts p o)
  next_same o m p q e h =
      let turn = kin_group p q h in
      let key = kin_part 0 _ _ (kin_group _ _ (kin_part 0 _ _ turn)) in
      either _ _ _ _ o m (spelt_same (codes "type") _ _ key) (value_same _ _ (kin_part 1 _ _ turn)) e

  last_type_same : (o m : Option Str) (p q : Part) → value_in m ≡ value_in o → Kin x ts y us p q
      → value_in (last_type y us m q) ≡ value_in (last_type x ts o p)
  last_type_same o m p q e none_there = e
  last_type_same o m p q e no_more = e
  last_type_same o m p q e (and_more {v = v} {w = w} h i) =
      last_type_same (next x ts v o) (next y us w m) _ _ (next_same o m v w e h) i
  last_type_same o m p q e (one_token n r) = e
  last_type_same o m p q e (one_node label h) = e

  abbrev by_value : Option (List ℕ) → Attribute → Attribute
  by_value (Some v) other = Named v
  by_value None other = other

  named_by : (o : Option Str) → named o ≡ by_value (value_in o) Absent
  named_by (Some s) = refl
  named_by None = refl

  named_same : (o m : Option Str) → value_in m ≡ value_in o → named m ≡ named o
  named_same o m e = named_by m ∙ (ap (λ v. by_value v Absent) e ∙ sym (named_by o))

  clause_by : (label : NodeKind) (p q : Part) (s t : Found) → Kin x ts y us p q
      → clause_attribute y us (node label q t) ≡ clause_attribute x ts (node label p s)
  clause_by l.Attributes p q s t h =
      named_same _ _ (last_type_same None None _ _ refl (kin_group _ _ (kin_part 0 p q h)))
  clause_by _ p q s t h = refl

  clause_same : (p q : Part) → Kin x ts y us p q → clause_attribute y us q ≡ clause_attribute x ts p
  clause_same p q none_there = refl
  clause_same p q no_more = refl
  clause_same p q (and_more h i) = refl
  clause_same p q (one_token n r) = refl
  clause_same p q (one_node label h) = clause_by label _ _ _ _ h

  attribute_same : (p q : Part) → Kin x ts y us p q → attribute_in y us q ≡ attribute_in x ts p
  attribute_same p q none_there = refl
  attribute_same p q no_more = refl
  attribute_same p q (and_more h i) = clause_same _ _ h
  attribute_same p q (one_token n r) = refl
  attribute_same p q (one_node label h) = refl

  pub declared_attribute : (a b : ℕ) (p q : Part) → Same a b p q → Only a b []
      → attribute_in y us q ≡ attribute_in x ts p
  declared_attribute a b p q h safe = attribute_same p q (kin a b p q h safe)

  -- ---- nodes with sites in them
  -- all changes in a node are of its own sites
  own_only : (a b from to : ℕ) (s t : Found) → a ≤ from → to ≤ b → s ≡ t → Only a b s → Only from to t
  own_only a b from to s t low high e safe =
      let P : Found → Type 0 = λ r. Only from to r in
      subst P e (narrower changes ts apart a from to b s low high safe)

  -- ---- the string literal that a node is
  src_by_same : (label : NodeKind) (a b from to : ℕ) (p q : Part) (s : Found) → a ≤ from → to ≤ b
      → Linked x ts label p s → Same from to p q → Only a b s
      → value_in (src_by y us label q) ≡ value_in (src_by x ts label p)
  src_by_same l.Str a b from to p q s low high link h safe =
      let quiet : Only from to [] = own_only a b from to s [] low high (link (λ e. cc)) safe in
      value_same _ _ (kin_part 0 p q (kin from to p q h quiet))
  src_by_same _ a b from to p q s low high link h safe = refl

  src_same : (a b : ℕ) (p q : Part) → Same a b p q → Only a b (found p)
      → value_in (src_in y us q) ≡ value_in (src_in x ts p)
  src_same a b p q (gone le) safe = refl
  src_same a b p q (end le) safe = refl
  src_same a b p q (pair h i) safe = refl
  src_same a b p q (leaf n low high) safe = refl
  src_same a b p q (made {from = from} {to = to} label low high mid link h m) safe =
      src_by_same label a b from to _ _ _ low high link h safe

  -- ---- keys
  word_key_by : (label : NodeKind) (p q : Part) (s t : Found)
      → is_word_key y us (node label q t) ≡ is_word_key x ts (node label p s)
  word_key_by l.WordKey p q s t = refl
  word_key_by l.StrKey p q s t = refl
  word_key_by _ p q s t = refl

  word_key_same : (a b : ℕ) (p q : Part) → Same a b p q → is_word_key y us q ≡ is_word_key x ts p
  word_key_same a b p q (gone le) = refl
  word_key_same a b p q (end le) = refl
  word_key_same a b p q (pair h i) = refl
  word_key_same a b p q (leaf n low high) = refl
  word_key_same a b p q (made label low high mid link h m) = word_key_by label _ _ _ _

  plain_by : (label : NodeKind) (from to : ℕ) (p q : Part) (s t : Found) → Same from to p q
      → is_plain y us (node label q t) ≡ is_plain x ts (node label p s)
  plain_by l.KeyValue from to p q s t h = word_key_same _ _ _ _ (part_alike 0 h)
  plain_by _ from to p q s t h = refl

  plain_same : (a b : ℕ) (p q : Part) → Same a b p q → is_plain y us q ≡ is_plain x ts p
  plain_same a b p q (gone le) = refl
  plain_same a b p q (end le) = refl
  plain_same a b p q (pair h i) = refl
  plain_same a b p q (leaf n low high) = refl
  plain_same a b p q (made label low high mid link h m) = plain_by label _ _ _ _ _ _ h

  are_plain_same : (so : Bool) (a b : ℕ) (p q : Part) → Same a b p q → are_plain y us so q ≡ are_plain x ts so p
  are_plain_same so a b p q (gone le) = refl
  are_plain_same so a b p q (end le) = refl
  are_plain_same so a b p q (pair {v = v} {w = w} {q = s} h i) =
      ap (λ k. are_plain y us (so && k) s) (plain_same _ _ _ _ (part_alike 0 (grouped h)))
      ∙ are_plain_same (so && is_plain x ts (part (as_group v) 0)) _ _ _ _ i
  are_plain_same so a b p q (leaf n low high) = refl
  are_plain_same so a b p q (made label low high mid link h m) = refl

  abbrev says_value : List ℕ → Option (List ℕ) → Bool
  says_value word (Some v) = bytes_eq v word
  says_value word None = false

  says_by : (z : List ℕ) (vs : List Token) (word : List ℕ) (o : Option Str)
      → same_str z vs word o ≡ says_value word (value_in o)
  says_by z vs word (Some s) = refl
  says_by z vs word None = refl

  str_same : (word : List ℕ) (o m : Option Str) → value_in m ≡ value_in o
      → same_str y us word m ≡ same_str x ts word o
  str_same word o m e = says_by y us word m ∙ (ap (says_value word) e ∙ sym (says_by x ts word o))

  key_by : (word : List ℕ) (label : NodeKind) (a b from to : ℕ) (p q : Part) (s t : Found) → a ≤ from → to ≤ b
      → Linked x ts label p s → Same from to p q → Only a b s
      → key_says y us word (node label q t) ≡ key_says x ts word (node label p s)
  key_by word l.WordKey a b from to p q s t low high link h safe =
      let quiet : Only from to [] = own_only a b from to s [] low high (link (λ e. cc)) safe in
      word_same word _ _ (kin_part 0 p q (kin from to p q h quiet))
  key_by word l.StrKey a b from to p q s t low high link h safe =
      let quiet : Only from to [] = own_only a b from to s [] low high (link (λ e. cc)) safe in
      str_same word _ _ (value_same _ _ (kin_part 0 p q (kin from to p q h quiet)))
  key_by word _ a b from to p q s t low high link h safe = refl

  key_same : (word : List ℕ) (a b : ℕ) (p q : Part) → Same a b p q → Only a b (found p)
      → key_says y us word q ≡ key_says x ts word p
  key_same word a b p q (gone le) safe = refl
  key_same word a b p q (end le) safe = refl
  key_same word a b p q (pair h i) safe = refl
  key_same word a b p q (leaf n low high) safe = refl
  key_same word a b p q (made {from = from} {to = to} label low high mid link h m) safe =
      key_by word label a b from to _ _ _ _ low high link h safe

  -- ---- what a property gives
  -- nothing, or a part among whose tokens all changes are of its sites
  data Given : Option Part → Option Part → Type 0 where
    not_given : Given None None
    is_given : (a b : ℕ) (v w : Part) → Same a b v w → Only a b (found v) → Given (Some v) (Some w)

  abbrev choose : Bool → Option Part → Option Part → Option Part
  choose b o p = if b then o else p

  given_if : (b : Bool) (o m p q : Option Part) → Given o m → Given p q → Given (choose b o p) (choose b m q)
  given_if true o m p q g k = g
  given_if false o m p q g k = k

  given_by_key : (b c : Bool) (o m p q : Option Part) → c ≡ b → Given o m → Given p q
      → Given (choose b o p) (choose c m q)
  given_by_key b c o m p q e g k =
      let P : Bool → Type 0 = λ k. Given (choose b o p) (choose k m q) in subst P (sym e) (given_if b o m p q g k)

  -- a key and its value
  key_value : (word : List ℕ) (from to : ℕ) (p q : Part) (h : Same from to p q) (o m : Option Part)
      → Only from to (at p 0 ++ at p 1) → Given o m
      → Given (choose (key_says x ts word (part p 0)) (Some (part p 1)) o)
      (choose (key_says y us word (part q 0)) (Some (part q 1)) m)
  key_value word from to p q h o m safe g =
      let here : Only (place 0 h) (place 2 h) (at p 0 ++ at p 1) =
      narrower changes ts apart from (place 0 h) (place 2 h) to (at p 0 ++ at p 1) (up 0 0 h (omega arith)) (last 2 h)
      safe in
      let key : Only (place 0 h) (place 1 h) (at p 0) =
      safe_left changes ts apart (place 0 h) (place 1 h) (place 1 h) (place 2 h) (at p 0) (at p 1) (omega arith)
      (at_run h 1).moves.stand here in
      let value : Only (place 1 h) (place 2 h) (at p 1) =
      safe_right changes ts apart (place 0 h) (place 1 h) (place 1 h) (place 2 h) (at p 0) (at p 1) (omega arith)
      (at_run h 0).moves.stand here in
      given_by_key _ _ _ _ _ _ (key_same word _ _ _ _ (part_alike 0 h) key)
      (is_given (place 1 h) (place 2 h) (part p 1) (part q 1) (part_alike 1 h) value) g

  given_by : (word : List ℕ) (label : NodeKind) (a b from to : ℕ) (p q : Part) (s t : Found) (o m : Option Part)
      → a ≤ from → to ≤ b → Linked x ts label p s → Same from to p q → Only a b s → Given o m
      → Given (given_in x ts word (node label p s) o) (given_in y us word (node label q t) m)
  given_by word l.KeyValue a b from to p q s t o m low high link h safe g =
      key_value word from to p q h o m (own_only a b from to s (at p 0 ++ at p 1) low high (link (λ e. cc)) safe) g
  given_by word _ a b from to p q s t o m low high link h safe g = g

  given_same : (word : List ℕ) (a b : ℕ) (p q : Part) (o m : Option Part) → Same a b p q → Only a b (found p)
      → Given o m → Given (given_in x ts word p o) (given_in y us word q m)
  given_same word a b p q o m (gone le) safe g = g
  given_same word a b p q o m (end le) safe g = g
  given_same word a b p q o m (pair h i) safe g = g
  given_same word a b p q o m (leaf n low high) safe g = g
  given_same word a b p q o m (made {from = from} {to = to} label low high mid link h k) safe g =
      given_by word label a b from to _ _ _ _ o m low high link h safe g

  -- ---- the properties of an object
  abbrev firsts : Part → Found
  firsts p = each (λ turn. at turn 0) p

  firsts_move : (a b : ℕ) (p q : Part) → Same a b p q → Moves changes ts a b (firsts p) (firsts q)
  firsts_move a b p q h = each_moves (λ turn. at turn 0) (λ turn. at turn 0) (λ a b p q i. all (at_run i 0)) h

  last_given_same : (word : List ℕ) (a b : ℕ) (p q : Part) (o m : Option Part) → Same a b p q → Only a b (firsts p)
      → Given o m → Given (last_given x ts word o p) (last_given y us word m q)
  last_given_same word a b p q o m (gone le) safe g = g
  last_given_same word a b p q o m (end le) safe g = g
  last_given_same word a b p q o m (pair {m = c} {v = v} {w = w} {p = r} {q = s} h i) safe g =
      let turn = grouped h in
      let one : Moves changes ts a c (at (as_group v) 0) (at (as_group w) 0) = all (at_run turn 0) in
      let rest = firsts_move c b r s i in
      let here : Only a c (at (as_group v) 0) =
      safe_left changes ts apart a c c b (at (as_group v) 0) (firsts r) (omega arith) rest.stand safe in
      let first : Only (place 0 turn) (place 1 turn) (at (as_group v) 0) =
      narrower changes ts apart a (place 0 turn) (place 1 turn) c (at (as_group v) 0) (up 0 0 turn (omega arith))
      (last 1 turn) here in
      last_given_same word c b r s (given_in x ts word (part (as_group v) 0) o)
      (given_in y us word (part (as_group w) 0) m) i
      (safe_right changes ts apart a c c b (at (as_group v) 0) (firsts r) (omega arith) one.stand safe)
      (given_same word (place 0 turn) (place 1 turn) (part (as_group v) 0) (part (as_group w) 0) o m (part_alike 0 turn)
      first g)
  last_given_same word a b p q o m (leaf n low high) safe g = g
  last_given_same word a b p q o m (made label low high mid link h k) safe g = g

  object_given : (word : List ℕ) (a b from to : ℕ) (p q : Part) (s : Found) → a ≤ from → to ≤ b
      → Linked x ts l.ObjectLiteral p s → Same from to p q → Only a b s
      → Given (last_given x ts word None (group p 0)) (last_given y us word None (group q 0))
  object_given word a b from to p q s low high link h safe =
      let here : Only from to (turns p 0 0) = own_only a b from to s (turns p 0 0) low high (link (λ e. cc)) safe in
      last_given_same word (place 0 h) (place 1 h) (group p 0) (group q 0) None None (group_alike 0 h)
      (narrower changes ts apart from (place 0 h) (place 1 h) to (turns p 0 0) (up 0 0 h (omega arith)) (last 1 h) here)
      not_given

  -- ---- the attribute of a call
  abbrev by_type : Option (List ℕ) → Attribute
  by_type v = by_value v Unknown

  type_by_value : (z : List ℕ) (vs : List Token) (o : Option Str) → type_by z vs o ≡ by_type (value_in o)
  type_by_value z vs (Some s) = refl
  type_by_value z vs None = refl

  type_same : (o m : Option Part) → Given o m → type_in y us m ≡ type_in x ts o
  type_same o m not_given = refl
  type_same o m (is_given a b v w h safe) =
      type_by_value y us (src_in y us w)
      ∙ (ap by_type (src_same a b v w h safe) ∙ sym (type_by_value x ts (src_in x ts v)))

  plainly : (b c : Bool) (o m : Attribute) → c ≡ b → m ≡ o → (if c then m else Unknown) ≡ (if b then o else Unknown)
  plainly b c o m e f =
      ap (λ (k : Bool). if k then m else Unknown) e ∙ ap (λ (k : Attribute). if b then k else Unknown) f

  with_by_same : (label : NodeKind) (a b from to : ℕ) (p q : Part) (s : Found) → a ≤ from → to ≤ b
      → Linked x ts label p s → Same from to p q → Only a b s → with_by y us label q ≡ with_by x ts label p
  with_by_same l.ObjectLiteral a b from to p q s low high link h safe =
      plainly _ _ _ _ (are_plain_same true _ _ _ _ (group_alike 0 h))
      (type_same _ _ (object_given (codes "type") a b from to p q s low high link h safe))
  with_by_same _ a b from to p q s low high link h safe = refl

  with_part_same : (a b : ℕ) (p q : Part) → Same a b p q → Only a b (found p)
      → with_in y us (Some q) ≡ with_in x ts (Some p)
  with_part_same a b p q (gone le) safe = refl
  with_part_same a b p q (end le) safe = refl
  with_part_same a b p q (pair h i) safe = refl
  with_part_same a b p q (leaf n low high) safe = refl
  with_part_same a b p q (made {from = from} {to = to} label low high mid link h m) safe =
      with_by_same label a b from to _ _ _ low high link h safe

  with_same : (o m : Option Part) → Given o m → with_in y us m ≡ with_in x ts o
  with_same o m not_given = refl
  with_same o m (is_given a b v w h safe) = with_part_same a b v w h safe

  options_by_same : (label : NodeKind) (a b from to : ℕ) (p q : Part) (s : Found) → a ≤ from → to ≤ b
      → Linked x ts label p s → Same from to p q → Only a b s → options_by y us label q ≡ options_by x ts label p
  options_by_same l.ObjectLiteral a b from to p q s low high link h safe =
      plainly _ _ _ _ (are_plain_same true _ _ _ _ (group_alike 0 h))
      (with_same _ _ (object_given (codes "with") a b from to p q s low high link h safe))
  options_by_same _ a b from to p q s low high link h safe = refl

  options_of_same : (a b : ℕ) (p q : Part) → Same a b p q → Only a b (found p)
      → options_of y us q ≡ options_of x ts p
  options_of_same a b p q (gone le) safe = refl
  options_of_same a b p q (end le) safe = refl
  options_of_same a b p q (pair h i) safe = refl
  options_of_same a b p q (leaf n low high) safe = refl
  options_of_same a b p q (made {from = from} {to = to} label low high mid link h m) safe =
      options_by_same label a b from to _ _ _ low high link h safe

  pub options_same : (a b : ℕ) (p q : Part) → Same a b p q → Only a b (inside (λ g. at g 0) p)
      → options_in y us q ≡ options_in x ts p
  options_same a b p q (gone le) safe = refl
  options_same a b p q (end le) safe = refl
  options_same a b p q (pair {m = c} {v = v} {w = w} h i) safe =
      options_of_same a c v w h (narrower changes ts apart a a c b (found v) (omega arith) (ahead i) safe)
  options_same a b p q (leaf n low high) safe = refl
  options_same a b p q (made label low high mid link h m) safe = refl
