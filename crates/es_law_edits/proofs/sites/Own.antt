-- The sites of the nodes of a plain tree move, form by form: over two texts of which the string literals have moved.
use Rattle.std.specs.Prelude.{ℕ, suc, Bool, false, List, [], ◌∷◌, ◌++◌, Option, Some, None, option_map, slice_get}
use Rattle.std.proofs.Common.{◌≡◌, ◌+◌, ◌≤◌, ◌<◌, refl, sym, ap, ◌∙◌, subst, arith}
use Rattle.es_token.specs.declared.token.Token.{Token}
use Rattle.es_ast.specs.declared.ts.leaf.Str.{Str}
use Rattle.es_grammar.specs.declared.rows.NodeKind.{NodeKind}
use Rattle.es_grammar.specs.declared.rows.NodeKind.TheVariants as l
use Rattle.es_site.specs.declared.site.Attribute.{Attribute}
use Rattle.es_site.specs.declared.site.Attribute.TheVariants.{Unknown}
use Rattle.es_site.specs.declared.site.Site.{Site}
use Rattle.es_site.specs.declared.site.DependencyKind.{DependencyKind}
use Rattle.es_site.specs.declared.site.DependencyKind.TheVariants as kind
use Rattle.es_site.specs.Sites.{Found}
use Rattle.es_lowering.specs.Texts.{str_of}
use Rattle.es_law_sites.specs.plain.Part.{Part, part, group, is_there, found, at, inside, may, each, turns}
use Rattle.es_law_sites.specs.plain.Own.{str_in, attribute_in, src_by, src_in, options_in, naming, declared, called, first_of, returned, handled, optional_inner, typed_args, typed_inner, operand, own}
use Rattle.source_text.specs.declared.text_changes.change.TextChange.{TextChange}
use Rattle.es_law_edits.specs.tokens.Moved.{moved, range_to}
use Rattle.es_law_edits.specs.sites.Moved.{value_to, SiteMoves, SitesMove, none, one, attributes_of}
use Rattle.es_law_edits.proofs.sites.Stands.{Apart, Safe, widen, safe_right}
use Rattle.es_law_edits.proofs.sites.Parts.{Moves, Linked, Alike, gone, end, pair, leaf, made, nothing, moves_wider, both_move, ahead, place, up, last, part_alike, group_alike, there, Run, all, two, found_moves, at_run, inside_run, each_run, may_run, turns_run, at_in, turns_in, two_in}
use Rattle.es_law_edits.proofs.sites.Attributes.{Keeps, declared_attribute, options_same}

-- a string literal has moved
pub record StrMoves (changes : List TextChange) (old new : Str) : Type 0 where
  pub span : new.span ≡ range_to (moved changes) old.span
  pub value : new.value ≡ value_to changes old.span old.value

-- neither is there, or both are, the old one on one of these tokens
pub data BothMove (changes : List TextChange) (ts : List Token) (a b : ℕ) : Option Str → Option Str → Type 0 where
  neither : BothMove changes ts a b None None
  both : {old new : Str} (n : ℕ) (t : Token) → a ≤ n → n < b → slice_get ts n ≡ Some t → old.span ≡ t.range
      → StrMoves changes old new → BothMove changes ts a b (Some old) (Some new)

-- the string literals among these tokens have moved
abbrev pub StrsMove : List TextChange → List ℕ → List Token → List ℕ → List Token → Type 0
StrsMove changes x ts y us =
    (n : ℕ) → BothMove changes ts n (suc n) (option_map (str_of x) (slice_get ts n))
    (option_map (str_of y) (slice_get us n))

str_wider : {changes : List TextChange} {ts : List Token} {a b c d : ℕ} {o p : Option Str} → a ≤ b → c ≤ d
    → BothMove changes ts b c o p → BothMove changes ts a d o p
str_wider low high neither = neither
str_wider low high (both n t from to there span moves) =
    both n t (omega (arith, low, from)) (omega (arith, high, to)) there span moves

-- a site, and those behind it
site_moves : {changes : List TextChange} {ts : List Token} {a m b : ℕ} {u v : Found} (old new : Site) (n : ℕ)
    (t : Token) → a ≤ n → n < m → slice_get ts n ≡ Some t → old.range ≡ t.range → SiteMoves changes old new
    → (Apart ts → Safe changes ts m b u → new.attribute ≡ old.attribute) → Moves changes ts m b u v
    → Moves changes ts a b (old ∷ u) (new ∷ v)
site_moves {changes = changes} {ts = ts} {a = a} {m = m} {b = b} {u = u} {v = v} old new n t low high there alike it
    given rest =
    let behind : n + 1 ≤ m = omega (arith, high) in
    record {
      stand = (n, t, low, there, alike, widen ts (n + 1) m b b u behind (omega arith) rest.stand);
      move = one old new u v it rest.move;
      attributes = λ apart safe.
          let other = safe_right changes ts apart a m m b (old ∷ []) u (omega arith) (n, t, low, there, alike, behind)
          safe in
          ap (λ (first : Attribute). first ∷ attributes_of v) (given apart other)
          ∙ ap (λ (later : List Attribute). old.attribute ∷ later) (rest.attributes apart other);
    }

module _ (changes : List TextChange) (x : List ℕ) (ts : List Token) (y : List ℕ) (us : List Token)
    (strs : StrsMove changes x ts y us) (keeps : Keeps changes x ts y us) where
  abbrev Same : ℕ → ℕ → Part → Part → Type 0
  Same a b p q = Alike changes x ts a b p q

  abbrev Move : ℕ → ℕ → Found → Found → Type 0
  Move a b s t = Moves changes ts a b s t

  -- ---- literals
  str_moves : (a b : ℕ) (p q : Part) → Same a b p q → BothMove changes ts a b (str_in x ts p) (str_in y us q)
  str_moves a b p q (gone le) = neither
  str_moves a b p q (end le) = neither
  str_moves a b p q (pair h i) = neither
  str_moves a b p q (leaf n low high) = str_wider low (let behind : suc n ≤ b = omega (arith, high) in behind) (strs n)
  str_moves a b p q (made label low high mid link h m) = neither

  -- the literal, and sites behind it
  naming_moves : (kind : DependencyKind) (a m b : ℕ) (u v : Found) (k n : Bool) (old new : Attribute) (o p : Option Str)
      → n ≡ k → m ≤ b → BothMove changes ts a m o p → (Apart ts → Safe changes ts m b u → new ≡ old) → Move m b u v
      → a ≤ m → Move a b (naming x ts kind k old o ++ u) (naming y us kind n new p ++ v)
  naming_moves kind a m b u v k n old new o p e le neither given rest first = moves_wider first (omega arith) rest
  naming_moves kind a m b u v k n old new o p e le (both j t low high there span it) given rest first =
      site_moves _ _ j t low high there span
      (record { kind = refl; type_only = e; range = it.span; value = it.value }) given rest

  naming_alone : (kind : DependencyKind) (a m b : ℕ) (k n : Bool) (old new : Attribute) (o p : Option Str) → n ≡ k
      → a ≤ m → m ≤ b → BothMove changes ts a m o p → (Apart ts → Safe changes ts m b [] → new ≡ old)
      → Move a b (naming x ts kind k old o) (naming y us kind n new p)
  naming_alone kind a m b k n old new o p e first le neither given = nothing (omega (arith, first, le))
  naming_alone kind a m b k n old new o p e first le (both j t low high there span it) given =
      site_moves _ _ j t low high there span
      (record { kind = refl; type_only = e; range = it.span; value = it.value }) given (nothing le)

  declared_run : (kind : DependencyKind) (k n : Bool) → k ≡ n → {a b : ℕ} {p q : Part} (h : Same a b p q) (i : ℕ)
      → Run h i (suc (suc i)) (declared x ts kind k p i) (declared y us kind n q i)
  declared_run kind k n e {p = p} {q = q} h i =
      let P : ℕ → Type 0 = λ j. attribute_in y us (group q j) ≡ attribute_in x ts (group p j) in
      let behind : suc i ≡ i + 1 = omega arith in
      record {
        moves = naming_alone kind (place i h) (place (suc i) h) (place (suc (suc i)) h) k n _ _ _ _ (sym e)
            (up i (suc i) h (omega arith)) (up (suc i) (suc (suc i)) h (omega arith))
            (str_moves _ _ (part p i) (part q i) (part_alike i h))
            (λ apart safe. subst P behind
            (declared_attribute changes x ts y us apart keeps _ _ (group p (suc i)) (group q (suc i))
            (group_alike (suc i) h) safe));
      }

  required_run : {a b : ℕ} {p q : Part} (h : Same a b p q)
      → Run h 2 3 (naming x ts kind.ImportEquals (is_there (group p 0)) Unknown (str_in x ts (part p 2)))
      (naming y us kind.ImportEquals (is_there (group q 0)) Unknown (str_in y us (part q 2)))
  required_run {p = p} {q = q} h =
      record {
        moves = naming_alone kind.ImportEquals (place 2 h) (place 3 h) (place 3 h) _ _ _ _ _ _
            (sym (there (group_alike 0 h))) (up 2 3 h (omega arith)) (omega arith)
            (str_moves _ _ (part p 2) (part q 2) (part_alike 2 h)) (λ apart safe. refl);
      }

  emptied : (s t : Found) → SitesMove changes s t → s ≡ [] → t ≡ []
  emptied s t none e = refl
  emptied s t (one old new olds news h i) e = absurd (let bad : ⊥ = cc in bad)

  -- no sites of its own stand in a literal
  behind_none : (m b : ℕ) (s t u v : Found) → s ≡ [] → t ≡ [] → Move m b u v → Move m b (s ++ u) (t ++ v)
  behind_none m b s t u v e f rest =
      let P : Found → Type 0 = λ r. Move m b (r ++ u) (t ++ v) in
      let Q : Found → Type 0 = λ r. Move m b u (r ++ v) in
      subst P (sym e) (subst Q (sym f) rest)

  safe_none : (m b : ℕ) (s u : Found) → s ≡ [] → Safe changes ts m b (s ++ u) → Safe changes ts m b u
  safe_none m b s u e safe = let P : Found → Type 0 = λ r. Safe changes ts m b (r ++ u) in subst P e safe

  -- a call whose first argument is a literal, or isn't
  called_by : (kind : DependencyKind) (label : NodeKind) (a b m from to : ℕ) (p q : Part) (s t u v : Found)
      (old new : Attribute) → a ≤ from
      → to ≤ m → m ≤ b → from ≤ to → Linked x ts label p s → Same from to p q → Move from to s t
      → (Apart ts → Safe changes ts m b u → new ≡ old) → Move m b u v
      → Move a b (naming x ts kind false old (src_by x ts label p) ++ (s ++ u))
      (naming y us kind false new (src_by y us label q) ++ (t ++ v))
  called_by kind l.Str a b m from to p q s t u v old new low high le mid link h it given rest =
      let no_sites : s ≡ [] = link (λ e. cc) in
      let place_low : a ≤ place 0 h = low in
      let place_high : place 1 h ≤ m =
      (let within : place 1 h ≤ to = last 1 h in omega (arith, within, high)) in
      naming_moves kind a m b (s ++ u) (t ++ v) false false old new _ _ refl le
      (str_wider place_low place_high (str_moves _ _ (part p 0) (part q 0) (part_alike 0 h)))
      (λ apart safe. given apart (safe_none m b s u no_sites safe))
      (behind_none m b s t u v no_sites (emptied s t it.move no_sites) rest) (omega (arith, low, mid, high))
  called_by kind _ a b m from to p q s t u v old new low high le mid link h it given rest =
      moves_wider low (omega arith) (both_move high it rest)

  call_moves : (kind : DependencyKind) (a m b : ℕ) (p q : Part) (u v : Found) (old new : Attribute)
      → Same a m p q → m ≤ b → (Apart ts → Safe changes ts m b u → new ≡ old) → Move m b u v
      → Move a b (naming x ts kind false old (src_in x ts p) ++ (found p ++ u))
      (naming y us kind false new (src_in y us q) ++ (found q ++ v))
  call_moves kind a m b p q u v old new (gone first) le given rest = moves_wider first (omega arith) rest
  call_moves kind a m b p q u v old new (end first) le given rest = moves_wider first (omega arith) rest
  call_moves kind a m b p q u v old new (pair h i) le given rest = moves_wider (ahead (pair h i)) (omega arith) rest
  call_moves kind a m b p q u v old new (leaf n low high) le given rest =
      moves_wider (omega (arith, low, high)) (omega arith) rest
  call_moves kind a m b p q u v old new (made {from = from} {to = to} label low high mid link h it) le given rest =
      called_by kind label a b m from to _ _ _ _ u v old new low high le mid link h it given rest

  call_run : (kind : DependencyKind) {a b : ℕ} {p q : Part} (h : Same a b p q)
      → Run h 0 2 (called x ts kind p) (called y us kind q)
  call_run kind {p = p} {q = q} h =
      record {
        moves = call_moves kind (place 0 h) (place 1 h) (place 2 h) (part p 0) (part q 0) (may p 1) (may q 1) _ _
            (part_alike 0 h) (up 1 2 h (omega arith))
            (λ apart safe. options_same changes x ts y us apart keeps _ _ (group p 1) (group q 1) (group_alike 1 h)
            safe)
            (may_run h 1).moves;
      }

  -- ---- forms of their own
  first_moves : (a b c d : ℕ) (p q : Part) (s t : Found) → Same a b p q → b ≤ c → c ≤ d → Move c d s t
      → Move a d (first_of x ts p s) (first_of y us q t)
  first_moves a b c d p q s t (gone first) low high rest = moves_wider (omega (arith, first, low)) (omega arith) rest
  first_moves a b c d p q s t (end first) low high rest = moves_wider (omega (arith, first, low)) (omega arith) rest
  first_moves a b c d p q s t (pair {m = m} h i) low high rest =
      let behind : m ≤ b = ahead i in moves_wider (omega arith) (omega (arith, behind, low, high)) (found_moves h)
  first_moves a b c d p q s t (leaf n from to) low high rest =
      moves_wider (omega (arith, from, to, low)) (omega arith) rest
  first_moves a b c d p q s t (made label from to mid link h m) low high rest =
      moves_wider (omega (arith, from, mid, to, low)) (omega arith) rest

  first_run : {a b : ℕ} {p q : Part} (h : Same a b p q)
      → Run h 0 3 (first_of x ts (group p 0) (first_of x ts (group p 1) (may p 2)))
      (first_of y us (group q 0) (first_of y us (group q 1) (may q 2)))
  first_run {p = p} {q = q} h =
      record {
        moves = first_moves (place 0 h) (place 1 h) (place 1 h) (place 3 h) (group p 0) (group q 0) _ _
            (group_alike 0 h) (omega arith) (up 1 3 h (omega arith))
            (first_moves (place 1 h) (place 2 h) (place 2 h) (place 3 h) (group p 1) (group q 1) _ _ (group_alike 1 h)
            (omega arith) (up 2 3 h (omega arith)) (may_run h 2).moves);
      }

  returned_moves : (a b : ℕ) (p q : Part) → Same a b p q → Move a b (returned x ts p) (returned y us q)
  returned_moves a b p q (gone le) = nothing le
  returned_moves a b p q (end le) = nothing le
  returned_moves a b p q (pair h (end le)) = nothing (ahead (pair h (end le)))
  returned_moves a b p q (pair h (gone le)) = moves_wider (omega arith) le (found_moves h)
  returned_moves a b p q (pair h (pair i k)) = moves_wider (omega arith) (ahead (pair i k)) (found_moves h)
  returned_moves a b p q (pair h (leaf n low high)) =
      moves_wider (omega arith) (omega (arith, low, high)) (found_moves h)
  returned_moves a b p q (pair h (made label low high mid link i m)) =
      moves_wider (omega arith) (omega (arith, low, mid, high)) (found_moves h)
  returned_moves a b p q (leaf n low high) = nothing (omega (arith, low, high))
  returned_moves a b p q (made label low high mid link h m) =
      nothing (omega (arith, low, mid, high))

  returned_run : {a b : ℕ} {p q : Part} (h : Same a b p q)
      → Run h 0 1 (returned x ts (group p 0)) (returned y us (group q 0))
  returned_run {p = p} {q = q} h =
      record { moves = returned_moves (place 0 h) (place 1 h) (group p 0) (group q 0) (group_alike 0 h) }

  caught_moves : {a b : ℕ} {p q : Part} → Same a b p q
      → Move a b (inside (λ g. at g 0) (group p 0) ++ at p 1 ++ may p 2)
      (inside (λ g. at g 0) (group q 0) ++ at q 1 ++ may q 2)
  caught_moves h = all (two (two (may_run h 0) (at_run h 1) refl) (may_run h 2) refl)

  handled_moves : (a b : ℕ) (p q : Part) → Same a b p q
      → Move a b (handled x ts (inside (λ g. at g 0)) p) (handled y us (inside (λ g. at g 0)) q)
  handled_moves a b p q (gone le) = caught_moves (gone le)
  handled_moves a b p q (end le) = caught_moves (end le)
  handled_moves a b p q (pair h (end le)) = moves_wider (omega arith) le (found_moves h)
  handled_moves a b p q (pair h (gone le)) = caught_moves (pair h (gone le))
  handled_moves a b p q (pair h (pair i k)) = caught_moves (pair h (pair i k))
  handled_moves a b p q (pair h (leaf n low high)) = caught_moves (pair h (leaf n low high))
  handled_moves a b p q (pair h (made label low high mid link i m)) =
      caught_moves (pair h (made label low high mid link i m))
  handled_moves a b p q (leaf n low high) = caught_moves (leaf n low high)
  handled_moves a b p q (made label low high mid link h m) = caught_moves (made label low high mid link h m)

  handled_run : {a b : ℕ} {p q : Part} (h : Same a b p q) (n : ℕ)
      → Run h n (suc n) (handled x ts (inside (λ g. at g 0)) (group p n))
      (handled y us (inside (λ g. at g 0)) (group q n))
  handled_run {p = p} {q = q} h n = record { moves = handled_moves _ _ (group p n) (group q n) (group_alike n h) }

  optional_moves : (a b : ℕ) (p q : Part) → Same a b p q → Move a b (optional_inner x ts p) (optional_inner y us q)
  optional_moves a b p q (gone le) = nothing le
  optional_moves a b p q (end le) = nothing le
  optional_moves a b p q (pair h i) = moves_wider (omega arith) (ahead i) (found_moves h)
  optional_moves a b p q (leaf n low high) = nothing (omega (arith, low, high))
  optional_moves a b p q (made label low high mid link h m) = moves_wider low high m

  optional_run : {a b : ℕ} {p q : Part} (h : Same a b p q)
      → Run h 0 1 (optional_inner x ts (part (group p 0) 0)) (optional_inner y us (part (group q 0) 0))
  optional_run h =
      let g = group_alike 0 h in
      record {
        moves = moves_wider (up 0 0 g (omega arith)) (last 1 g) (optional_moves _ _ _ _ (part_alike 0 g));
      }

  typed_args_moves : (a b : ℕ) (p q : Part) → Same a b p q → Move a b (typed_args x ts p) (typed_args y us q)
  typed_args_moves a b p q (gone le) = nothing le
  typed_args_moves a b p q (end le) = nothing le
  typed_args_moves a b p q (pair (leaf n low high) i) = nothing (ahead (pair (leaf n low high) i))
  typed_args_moves a b p q (pair (gone le) i) = all (at_run (pair (gone le) i) 1)
  typed_args_moves a b p q (pair (end le) i) = all (at_run (pair (end le) i) 1)
  typed_args_moves a b p q (pair (pair h k) i) = all (at_run (pair (pair h k) i) 1)
  typed_args_moves a b p q (pair (made label low high mid link h m) i) =
      all (at_run (pair (made label low high mid link h m) i) 1)
  typed_args_moves a b p q (leaf n low high) = nothing (omega (arith, low, high))
  typed_args_moves a b p q (made label low high mid link h m) =
      nothing (omega (arith, low, mid, high))

  typed_inner_moves : (a b : ℕ) (p q : Part) → Same a b p q → Move a b (typed_inner x ts p) (typed_inner y us q)
  typed_inner_moves a b p q (gone le) = nothing le
  typed_inner_moves a b p q (end le) = nothing le
  typed_inner_moves a b p q (pair h i) = typed_args_moves a b _ _ (pair h i)
  typed_inner_moves a b p q (leaf n low high) = nothing (omega (arith, low, high))
  typed_inner_moves a b p q (made label low high mid link h m) = moves_wider low high m

  typed_optional_run : {a b : ℕ} {p q : Part} (h : Same a b p q)
      → Run h 0 1 (typed_inner x ts (part (group p 0) 0)) (typed_inner y us (part (group q 0) 0))
  typed_optional_run h =
      let g = group_alike 0 h in
      record {
        moves = moves_wider (up 0 0 g (omega arith)) (last 1 g) (typed_inner_moves _ _ _ _ (part_alike 0 g));
      }

  operand_moves : (a b c d : ℕ) (g k p q : Part) → Same a b g k → Same c d p q
      → Move a b (operand x ts g p) (operand y us k q)
  operand_moves a b c d g k p q h (gone le) = all (at_run h 1)
  operand_moves a b c d g k p q h (end le) = all (at_run h 1)
  operand_moves a b c d g k p q h (pair i j) = nothing (ahead h)
  operand_moves a b c d g k p q h (leaf n low high) = all (at_run h 1)
  operand_moves a b c d g k p q h (made label low high mid link i m) = all (at_run h 1)

  operand_run : {a b : ℕ} {p q : Part} (h : Same a b p q) (n : ℕ)
      → Run h n (suc n) (operand x ts (group p n) (part (group p n) 1)) (operand y us (group q n) (part (group q n) 1))
  operand_run {p = p} {q = q} h n =
      let g = group_alike n h in
      record {
        moves = operand_moves _ _ _ _ (group p n) (group q n) (part (group p n) 1) (part (group q n) 1) g
            (part_alike 1 g);
      }

  -- ---- by the alternative, a line for each that has sites
  pub own_moves : (label : NodeKind) (a b : ℕ) (p q : Part) → Same a b p q
      → Move a b (own x ts label p) (own y us label q)
  -- modules
  own_moves l.BareImport a b p q h = all (declared_run kind.Import false false refl h 0)
  own_moves l.FromImport a b p q h = all (declared_run kind.Import _ _ (there (group_alike 0 h)) h 2)
  own_moves l.SourceImport a b p q h = all (declared_run kind.ImportSource false false refl h 1)
  own_moves l.DeferImport a b p q h = all (declared_run kind.ImportDefer false false refl h 1)
  own_moves l.RequireImport a b p q h = all (required_run h)
  own_moves l.ExportedRequireImport a b p q h = all (required_run h)
  own_moves l.ExportAll a b p q h = all (declared_run kind.Export _ _ (there (group_alike 0 h)) h 2)
  own_moves l.ExportNames a b p q h = all (inside_run h 2 (λ g. declared x ts kind.Export (is_there (group p 0)) g 0)
      (λ g. declared y us kind.Export (is_there (group q 0)) g 0)
      (λ c d v w i. all (declared_run kind.Export _ _ (there (group_alike 0 h)) i 0)))
  own_moves l.ExportDefaultFunction a b p q h = all (at_run h 0)
  own_moves l.ExportDefaultClass a b p q h = all (at_run h 0)
  own_moves l.ExportDefaultExpression a b p q h = all (at_run h 0)
  own_moves l.ExportDeclaration a b p q h = all (at_run h 0)
  own_moves l.ExportDefaultInterface a b p q h = all (at_run h 0)
  own_moves l.ExportAssignment a b p q h = all (at_run h 0)
  own_moves l.Module a b p q h = all (turns_run h 1 0)
  own_moves l.Script a b p q h = all (turns_run h 1 0)
  -- expressions
  own_moves l.ImportCall a b p q h = all (call_run kind.Dynamic h)
  own_moves l.SourceCall a b p q h = all (call_run kind.DynamicSource h)
  own_moves l.DeferCall a b p q h = all (call_run kind.DynamicDefer h)
  own_moves l.TemplateParts a b p q h = all (two (at_run h 1) (turns_run h 2 1) refl)
  own_moves l.Parenthesized a b p q h = all (at_run h 0)
  own_moves l.ArrayLiteral a b p q h =
      all (each_run h 0 (λ turn. may turn 0) (λ turn. may turn 0) (λ c d v w i. all (may_run i 0)))
  own_moves l.ObjectLiteral a b p q h = all (turns_run h 0 0)
  own_moves l.Spread a b p q h = all (at_run h 0)
  own_moves l.Function a b p q h = all (two (at_run h 2) (at_run h 3) refl)
  own_moves l.AsyncFunction a b p q h = all (two (at_run h 2) (at_run h 3) refl)
  own_moves l.Class a b p q h = all (two (may_run h 1) (turns_run h 2 0) refl)
  own_moves l.New a b p q h = all (two (at_run h 0) (may_run h 1) refl)
  own_moves l.Chain a b p q h = all (two (at_run h 0) (two (at_run h 1) (turns_run h 2 0) refl) refl)
  own_moves l.UpdatePrefix a b p q h = all (at_run h 1)
  own_moves l.UpdatePostfix a b p q h = all (at_run h 0)
  own_moves l.UnaryExpression a b p q h = all (at_run h 1)
  own_moves l.AwaitExpression a b p q h = all (at_run h 0)
  own_moves l.Binary a b p q h = all (two (at_run h 0) (at_run h 2) refl)
  own_moves l.PrivateIn a b p q h = all (at_run h 1)
  own_moves l.Conditional a b p q h = all (two (two (at_run h 0) (at_run h 1) refl) (at_run h 2) refl)
  own_moves l.Assignment a b p q h = all (two (at_run h 0) (at_run h 2) refl)
  own_moves l.PatternAssignment a b p q h = all (two (at_run h 0) (at_run h 1) refl)
  own_moves l.Yield a b p q h = all (inside_run h 0 (λ g. at g 1) (λ g. at g 1) (λ c d v w i. all (at_run i 1)))
  own_moves l.NameArrow a b p q h = all (at_in h 1 0)
  own_moves l.AsyncNameArrow a b p q h = all (at_in h 1 0)
  own_moves l.ParenthesizedArrow a b p q h = all (two (at_run h 0) (at_in h 1 0) refl)
  own_moves l.AsyncParenthesizedArrow a b p q h = all (two (at_run h 0) (at_in h 1 0) refl)
  own_moves l.Sequence a b p q h = all (two (at_run h 0) (two (at_run h 1) (turns_run h 2 0) refl) refl)
  own_moves l.Arguments a b p q h = all (turns_run h 0 1)
  own_moves l.IndexPost a b p q h = all (at_run h 0)
  own_moves l.CallPost a b p q h = all (at_run h 0)
  own_moves l.TemplatePost a b p q h = all (at_run h 0)
  own_moves l.OptionalPost a b p q h = all (optional_run h)
  own_moves l.TypedFunction a b p q h = all (two (at_run h 2) (at_in h 3 0) refl)
  own_moves l.TypedAsyncFunction a b p q h = all (two (at_run h 2) (at_in h 3 0) refl)
  own_moves l.TypedClass a b p q h = all (two (may_run h 2) (turns_run h 4 0) refl)
  own_moves l.AbstractClass a b p q h = all (two (may_run h 2) (turns_run h 4 0) refl)
  own_moves l.TypedNew a b p q h = all (two (at_run h 0) (may_run h 2) refl)
  own_moves l.TypeAssertion a b p q h = all (at_run h 1)
  own_moves l.TypedBinary a b p q h = all (two (at_run h 0) (operand_run h 1) refl)
  own_moves l.TypedParenthesizedArrow a b p q h = all (two (at_run h 1) (at_in h 3 0) refl)
  own_moves l.TypedAsyncParenthesizedArrow a b p q h = all (two (at_run h 1) (at_in h 3 0) refl)
  own_moves l.TypedCallPost a b p q h = all (at_run h 1)
  own_moves l.TypedTemplatePost a b p q h = all (at_run h 1)
  own_moves l.TypedOptionalPost a b p q h = all (typed_optional_run h)
  -- properties, keys and members
  own_moves l.ComputedKey a b p q h = all (at_run h 0)
  own_moves l.SpreadProperty a b p q h = all (at_run h 0)
  own_moves l.KeyValue a b p q h = all (two (at_run h 0) (at_run h 1) refl)
  own_moves l.MethodProperty a b p q h = all (two (at_run h 0) (two (at_run h 1) (at_run h 2) refl) refl)
  own_moves l.GeneratorProperty a b p q h = all (two (at_run h 0) (two (at_run h 1) (at_run h 2) refl) refl)
  own_moves l.AsyncProperty a b p q h = all (two (at_run h 1) (two (at_run h 2) (at_run h 3) refl) refl)
  own_moves l.AccessorProperty a b p q h = all (two (at_run h 1) (two (at_run h 2) (at_run h 3) refl) refl)
  own_moves l.TypedMethodProperty a b p q h = all (two_in 0 0 1 refl (at_run h 1) refl)
  own_moves l.TypedGeneratorProperty a b p q h = all (two_in 0 0 1 refl (at_run h 1) refl)
  own_moves l.TypedAsyncProperty a b p q h = all (two_in 1 0 1 refl (at_run h 2) refl)
  own_moves l.TypedAccessorProperty a b p q h = all (two_in 1 0 1 refl (at_run h 2) refl)
  own_moves l.StaticBlock a b p q h = all (at_run h 0)
  own_moves l.MethodMember a b p q h = all (two (at_run h 1) (two (at_run h 2) (at_run h 3) refl) refl)
  own_moves l.GeneratorMember a b p q h = all (two (at_run h 1) (two (at_run h 2) (at_run h 3) refl) refl)
  own_moves l.AsyncMember a b p q h = all (two (at_run h 2) (two (at_run h 3) (at_run h 4) refl) refl)
  own_moves l.AccessorMember a b p q h = all (two (at_run h 2) (two (at_run h 3) (at_run h 4) refl) refl)
  own_moves l.FieldMember a b p q h = all (two (at_run h 1) (may_run h 2) refl)
  own_moves l.AccessorField a b p q h = all (two (at_run h 1) (may_run h 2) refl)
  own_moves l.TypedMethodMember a b p q h = all (two_in 1 0 2 refl (at_in h 2 0) refl)
  own_moves l.TypedGeneratorMember a b p q h = all (two_in 1 0 2 refl (at_in h 2 0) refl)
  own_moves l.TypedAsyncMember a b p q h = all (two_in 2 0 2 refl (at_in h 3 0) refl)
  own_moves l.TypedAccessorMember a b p q h = all (two_in 2 0 2 refl (at_in h 3 0) refl)
  own_moves l.TypedFieldMember a b p q h = all (two (at_run h 1) (may_run h 4) refl)
  own_moves l.TypedAccessorField a b p q h = all (two (at_run h 1) (may_run h 4) refl)
  -- patterns and parameters
  own_moves l.ArrayPattern a b p q h =
      all (each_run h 0 (λ turn. may turn 0) (λ turn. may turn 0) (λ c d v w i. all (may_run i 0)))
  own_moves l.ObjectPattern a b p q h = all (turns_run h 0 0)
  own_moves l.RestPattern a b p q h = all (at_run h 0)
  own_moves l.DefaultPattern a b p q h = all (two (at_run h 0) (at_run h 1) refl)
  own_moves l.RestProperty a b p q h = all (at_run h 0)
  own_moves l.KeyPattern a b p q h = all (two (at_run h 0) (two (at_run h 1) (may_run h 2) refl) refl)
  own_moves l.NameProperty a b p q h = all (may_run h 1)
  own_moves l.DefaultParameter a b p q h = all (two (at_run h 0) (at_run h 1) refl)
  own_moves l.MarkedParameter a b p q h = all (two (at_run h 0) (may_run h 3) refl)
  own_moves l.PropertyParameter a b p q h = all (two (at_run h 1) (may_run h 4) refl)
  own_moves l.ThisParameter a b p q h = all (may_run h 3)
  own_moves l.Parameters a b p q h = all (two (turns_run h 0 0) (may_run h 1) refl)
  own_moves l.TypedParameters a b p q h = all (two (turns_run h 0 0) (may_run h 1) refl)
  own_moves l.Signature a b p q h = all (at_run h 0)
  own_moves l.TypedSignature a b p q h = all (at_run h 1)
  -- statements and declarations
  own_moves l.Block a b p q h = all (turns_run h 0 0)
  own_moves l.ExpressionStatement a b p q h = all (at_run h 0)
  own_moves l.LabelledStatement a b p q h = all (at_run h 1)
  own_moves l.IfStatement a b p q h = all (two (two (at_run h 0) (at_run h 1) refl) (may_run h 2) refl)
  own_moves l.ForStatement a b p q h =
      all (two (two (two (first_run h) (may_run h 3) refl) (may_run h 4) refl) (at_run h 5) refl)
  own_moves l.ForEachStatement a b p q h = all (two (two (at_run h 0) (at_in h 1 1) refl) (at_run h 2) refl)
  own_moves l.ForAwaitStatement a b p q h = all (two (two (at_run h 0) (at_run h 1) refl) (at_run h 2) refl)
  own_moves l.WhileStatement a b p q h = all (two (at_run h 0) (at_run h 1) refl)
  own_moves l.DoStatement a b p q h = all (two (at_run h 0) (at_run h 1) refl)
  own_moves l.ReturnStatement a b p q h = all (returned_run h)
  own_moves l.ThrowStatement a b p q h = all (at_run h 0)
  own_moves l.SwitchStatement a b p q h = all (two (at_run h 0) (each_run h 1 (λ turn. may turn 0 ++ turns turn 1 0)
      (λ turn. may turn 0 ++ turns turn 1 0) (λ c d v w i. all (two (may_run i 0) (turns_run i 1 0) refl))) refl)
  own_moves l.TryStatement a b p q h = all (two (at_run h 0) (handled_run h 1) refl)
  own_moves l.TypedTryStatement a b p q h = all (two (at_run h 0) (handled_run h 1) refl)
  own_moves l.WithStatement a b p q h = all (two (at_run h 0) (at_run h 1) refl)
  own_moves l.VariableDeclaration a b p q h = all (at_run h 0)
  own_moves l.UsingDeclaration a b p q h = all (at_run h 0)
  own_moves l.Variables a b p q h = all (two (at_run h 1) (turns_run h 2 0) refl)
  own_moves l.Using a b p q h = all (two (at_run h 1) (turns_run h 2 0) refl)
  own_moves l.Declarator a b p q h = all (two (at_run h 0) (at_run h 1) refl)
  own_moves l.TypedDeclarator a b p q h = all (two (at_run h 0) (may_run h 3) refl)
  own_moves l.VariableHead a b p q h = all (at_run h 1)
  own_moves l.TypedVariableHead a b p q h = all (at_run h 1)
  own_moves l.Declared a b p q h = all (at_run h 0)
  own_moves l.DeclaredVariables a b p q h = all (at_run h 0)
  own_moves l.EnumDeclaration a b p q h =
      all (each_run h 2 (λ turn. at turn 0 ++ may turn 1) (λ turn. at turn 0 ++ may turn 1) (λ c d v w i. all (two
      (at_run i 0) (may_run i 1) refl)))
  own_moves l.NamespaceDeclaration a b p q h = all (turns_run h 2 0)
  own_moves l.ModuleDeclaration a b p q h = all (turns_in h 1 0 0)
  own_moves l.GlobalDeclaration a b p q h = all (turns_run h 0 0)
  own_moves _ a b p q h = nothing (ahead h)
