-- What a loop over the turns behind an operand writes of what the table's reader answers.
use Rattle.std.specs.Prelude.{List, [], ◌∷◌, ◌++◌, Result, Ok, Err, Bool, true, false, max, leb}
use Rattle.std.proofs.Common.{◌≡◌, ℕ, zero, suc, ◌-◌, length, refl, sym, ap, ◌∙◌, subst, arith}
use Rattle.std.proofs.lemmas.List.{append-nil, append_assoc}
use Rattle.std.proofs.Math.Seq.{take-append_seam, drop-append_seam}
use Rattle.grammar_theory.specs.declared.error.SyntaxError.{SyntaxError}
use Rattle.grammar_theory.specs.declared.error.SyntaxError.TheVariants.{OutOfMemory}
use Rattle.grammar_theory.specs.Key.{Key}
use Rattle.grammar_theory.specs.Productions.{Predicate, Predict, test, Rhs, Production, wrap}
use Rattle.grammar_theory.specs.Plain.{over}
use Rattle.grammar_theory.specs.Fits.{most_nodes}
use Rattle.grammar_theory.specs.Reader.{Out, nothing, gives, and_then}
use Rattle.grammar_theory.proofs.OutLemmas.{either_true, then_gives, only_if_true}
use Rattle.es_grammar.specs.declared.rows.NodeKind.{NodeKind}
use Rattle.es_grammar.specs.Conditions.{leans}
use Rattle.es_grammar.specs.declared.cst.tree.Cst.{Cst, out-Cst, out-roll-Cst}
use Rattle.es_grammar.specs.declared.cst.tree.Cst.TheVariants as vCst
use Rattle.es_grammar.specs.declared.cst.tree.Cst.TheOpen.{Cst-F}
use Rattle.es_syntax.specs.declared.entry.Lean.{Lean}
use Rattle.es_syntax.specs.declared.entry.Lean.TheVariants as vLean
use Rattle.es_syntax.specs.declared.entry.What.TheVariants as vWhat
use Rattle.es_syntax.specs.declared.entry.Entry.{Entry}
use Rattle.es_syntax.specs.Held.{label_of}
use Rattle.es_syntax.specs.Trees.{Kept, trees_in, tree_by, turn_parts, leaning_tree, leaned_tree, leant_tree}
use Rattle.es_syntax.specs.Written.{closed, opened}
use Rattle.es_syntax.specs.Forest.{Forest, none, node, entries_of, kept_of, beside, Keeps}
use Rattle.es_syntax.proofs.Forests.{entries_beside, kept_beside, trees_beside, keeps_all, keeps_less}
use Rattle.es_rules.specs.declared.cursor.Cursor.{Cursor}
use Rattle.es_rules.specs.Bounded.{Read, turned, turned_at, wraps_at, form_at, rule_at}
use Rattle.es_rules.specs.Steps.{single, group, with_opened, with_closed, Writes, IsRefused, IsRead, IsTurn, Adds}
use Rattle.es_rules.proofs.FormLemmas.{closes, keeps_written, keeps_opened}

-- one answer, then another, and then what follows
nested : (o : Out Read) (f : Read → ℕ → Out Read) (g : Read → ℕ → Out Read)
    → and_then o (λ a to. and_then (f a to) g) ≡ and_then (and_then o f) g
nested nothing f g = refl
nested (gives a to) f g = refl

-- the node of an operand and a turn
pub node_gives : (out : Out Read) (l : NodeKind) (t : Cst) (from h g n : ℕ) (ts : List Cst) (to : ℕ)
    → out ≡ gives (group ts g) to → n ≡ over (leans l) h g → leb n most_nodes ≡ true
    → and_then out (λ ps to. turned_at l from to (single t h) ps)
    ≡ gives (single (vCst.Node l from to (t ∷ ts)) n) to
unfolding turned_at
node_gives out l t from h g n ts to e count few =
    then_gives out (λ ps to. turned_at l from to (single t h) ps) (group ts g) to
    (gives (single (vCst.Node l from to (t ∷ ts)) n) to) e
    (only_if_true (leb (over (leans l) h g) most_nodes)
    (gives (single (vCst.Node l from to (t ∷ ts)) (over (leans l) h g)) to)
    (gives (single (vCst.Node l from to (t ∷ ts)) n) to)
    (ap (λ k. leb k most_nodes) (sym count) ∙ few)
    (ap (λ k. gives (single (vCst.Node l from to (t ∷ ts)) k) to) (sym count)))

pub node_many : (out : Out Read) (l : NodeKind) (t : Cst) (from h g : ℕ) (ts : List Cst) (to : ℕ)
    → out ≡ gives (group ts g) to → leb (over (leans l) h g) most_nodes ≡ false
    → and_then out (λ ps to. turned_at l from to (single t h) ps) ≡ nothing
unfolding turned_at
node_many out l t from h g ts to e past =
    then_gives out (λ ps to. turned_at l from to (single t h) ps) (group ts g) to nothing e (rw past refl)

pub node_none : (out : Out Read) (l : NodeKind) (t : Cst) (from h : ℕ) → out ≡ nothing
    → and_then out (λ ps to. turned_at l from to (single t h) ps) ≡ nothing
node_none out l t from h e = ap (λ o. and_then o (λ ps to. turned_at l from to (single t h) ps)) e

module _ (K : List Key) (l : NodeKind) (t : Predicate) (parts : ℕ → Out Read) (from : ℕ) where
  -- what one turn makes
  abbrev pub turn_at : Read → ℕ → Out Read
  turn_at q at = and_then (parts at) (λ ps to. turned_at l from to q ps)

  -- a turn, and those after it
  one_turn : (n : ℕ) (q : Read) (at : ℕ) → t K at ≡ true
      → wraps_at K l t parts from (suc n) q at ≡ and_then (turn_at q at) (wraps_at K l t parts from n)
  unfolding wraps_at
  one_turn n q at here =
      either_true (t K at)
      (and_then (parts at) (λ ps to. and_then (turned_at l from to q ps) (wraps_at K l t parts from n)))
      (gives q at)
      (and_then (turn_at q at) (wraps_at K l t parts from n)) here
      (nested (parts at) (λ ps to. turned_at l from to q ps) (wraps_at K l t parts from n))

  -- one more turn
  pub wraps_more : (n : ℕ) (q : Read) (at : ℕ) (x : Read) (mid : ℕ) → (n ≡ 0 → ⊥) → t K at ≡ true
      → turn_at q at ≡ gives x mid
      → wraps_at K l t parts from n q at ≡ wraps_at K l t parts from (n - 1) x mid
  wraps_more zero q at x mid some here turn = absurd (some refl)
  wraps_more (suc n) q at x mid some here turn =
      let e : suc n - 1 ≡ n = omega arith in
      one_turn n q at here ∙ ap (λ o. and_then o (wraps_at K l t parts from n)) turn
      ∙ ap (λ k. wraps_at K l t parts from k x mid) (sym e)

  -- a turn that can't be read
  pub wraps_stuck : (n : ℕ) (q : Read) (at : ℕ) → t K at ≡ true → turn_at q at ≡ nothing
      → wraps_at K l t parts from n q at ≡ nothing
  unfolding wraps_at
  wraps_stuck zero q at here turn = rw here refl
  wraps_stuck (suc n) q at here turn = one_turn n q at here ∙ ap (λ o. and_then o (wraps_at K l t parts from n)) turn

  -- more turns than there may be
  pub wraps_full : (n : ℕ) (q : Read) (at : ℕ) → n ≡ 0 → t K at ≡ true → wraps_at K l t parts from n q at ≡ nothing
  unfolding wraps_at
  wraps_full n q at over here = rw (over, here) refl

  -- no more turns
  pub wraps_end : (n : ℕ) (q : Read) (at : ℕ) → t K at ≡ false → wraps_at K l t parts from n q at ≡ gives q at
  unfolding wraps_at
  wraps_end zero q at e = rw e refl
  wraps_end (suc n) q at e = rw e refl

module _ {Row : Type 0} (keeps : Bool) (K : List Key) (below : Row → ℕ → Out Read) (l : NodeKind)
    (a : Production Row NodeKind)
    (c : Predict) (f : Rhs Row) (from at : ℕ) where
  -- what is behind the operand
  abbrev behind_at : Read → ℕ → Out Read
  behind_at q mid = wraps_at K l (test c) (form_at K below f) from (length K) q mid

  -- no turn stands there: the operand alone is read
  pub wrap_absent : (base : List Entry) (new : Cursor) (r : Result ℕ SyntaxError) → test c K new.at ≡ false
      → IsRead keeps (rule_at K below a from) base new r → IsRead keeps (rule_at K below (wrap l a c f) from) base new r
  wrap_absent base new (Ok h) there operand = (
    operand.0,
    operand.1,
    then_gives (rule_at K below a from) behind_at (single operand.0 h) new.at (gives (single operand.0 h) new.at)
        operand.2 (wraps_end K l (test c) (form_at K below f) from (length K) (single operand.0 h) new.at there),
  )
  wrap_absent base new (Err e) there operand = (operand.0, λ memory. ap (λ o. and_then o behind_at) (operand.1 memory))

-- an operand, and what is read behind it
pub behind_read : (keeps : Bool) (out : Out Read) (f : Read → ℕ → Out Read) (base : List Entry) (mid new : Cursor)
    (h : ℕ)
    (r : Result ℕ SyntaxError) (operand : IsRead keeps out base mid (Ok h))
    → IsRead keeps (f (single operand.0 h) mid.at) base new r
    → IsRead keeps (and_then out f) base new r
behind_read keeps out f base mid new h (Ok g) operand more = (
  more.0,
  more.1,
  then_gives out f (single operand.0 h) mid.at (gives (single more.0 g) new.at) operand.2 more.2,
)
behind_read keeps out f base mid new h (Err e) operand more =
    (more.0, λ memory. then_gives out f (single operand.0 h) mid.at nothing operand.2 (more.1 memory))

-- the same of an operand that was read before
pub behind_by : (keeps : Bool) (out : Out Read) (f : Read → ℕ → Out Read) (base : List Entry) (mid new : Cursor) (h : ℕ)
    (r o : Result ℕ SyntaxError) → o ≡ Ok h → IsRead keeps out base mid o
    → ((t : Cst) → Writes keeps base mid.row (t ∷ []) → IsRead keeps (f (single t h) mid.at) base new r)
    → IsRead keeps (and_then out f) base new r
behind_by keeps out f base mid new h r o is operand more =
    let read : IsRead keeps out base mid (Ok h) =
    subst (λ (o : Result ℕ SyntaxError). IsRead keeps out base mid o) is operand in
    behind_read keeps out f base mid new h r read (more read.0 read.1)

pub behind_refused : (keeps : Bool) (out : Out Read) (f : Read → ℕ → Out Read) (base new : List Entry) (e : SyntaxError)
    → IsRefused keeps out base new e → IsRefused keeps (and_then out f) base new e
behind_refused keeps out f base new e told = (told.0, λ memory. ap (λ o. and_then o f) (told.1 memory))

-- ---- a node that was opened before an operand

pub opened_at : (at : ℕ) (base old : List Entry) (s : Forest) → length base ≡ at → old ≡ base ++ entries_of s
    → with_opened true at old ≡ (base ++ opened) ++ entries_of s
opened_at at base old s place e =
    rw (← place, e, take-append_seam base (entries_of s), drop-append_seam base (entries_of s)) refl

pub keeps_opened_before : (keeps : Bool) (at : ℕ) (base old mid new : List Entry) (ts : List Cst) → length base ≡ at
    → Writes keeps base old ts → mid ≡ with_opened keeps at old → Keeps mid new → Keeps base new
keeps_opened_before true at base old mid new ts place w e k =
    let same : mid ≡ base ++ (opened ++ entries_of w.0) =
    e ∙ (opened_at at base old w.0 place w.1 ∙ append_assoc base opened (entries_of w.0)) in
    keeps_less base (opened ++ entries_of w.0) new (subst (λ (es : List Entry). Keeps es new) same k)
keeps_opened_before false at base old mid new ts place w e k =
    subst (λ (es : List Entry). Keeps es new) (e ∙ w) k

-- an operand, and parts behind it, as the parts of a node that was opened before both and closed behind them
writes_wrapped : (keeps : Bool) (l : NodeKind) (from to at : ℕ) (base old mid new after : List Entry) (t : Cst)
    (ts : List Cst)
    → mid ≡ with_opened keeps at old → Writes keeps mid new ts
    → after ≡ with_closed keeps (vWhat.Node l) from to at new → length base ≡ at → Writes keeps base old (t ∷ [])
    → Writes keeps base after (vCst.Node l from to (t ∷ ts) ∷ [])
unfolding kept_of
writes_wrapped true l from to at base old mid new after t ts e parts shut place w =
    let s = beside w.0 parts.0 in
    let all : new ≡ (base ++ opened) ++ entries_of s =
    parts.1 ∙ (ap (λ (es : List Entry). es ++ entries_of parts.0) (e ∙ opened_at at base old w.0 place w.1)
    ∙ (append_assoc (base ++ opened) (entries_of w.0) (entries_of parts.0)
    ∙ ap (λ (es : List Entry). (base ++ opened) ++ es) (sym (entries_beside w.0 parts.0)))) in
    let trees : trees_in (kept_of s) ≡ t ∷ ts =
    trees_beside w.0 parts.0 ∙ (ap (λ (xs : List Cst). xs ++ trees_in (kept_of parts.0)) w.2
    ∙ ap (λ (xs : List Cst). t ∷ xs) parts.2) in (
      node (vWhat.Node l) from to s none,
      closes (vWhat.Node l) from to at base new after s (sym place) all shut,
      ap (λ (us : List Cst). vCst.Node l from to us ∷ []) trees,
    )
writes_wrapped false l from to at base old mid new after t ts e parts shut place w = shut ∙ (parts ∙ (e ∙ w))

-- a node of an operand and of parts behind it
module _ (keeps : Bool) (out : Out Read) (l : NodeKind) (from h at : ℕ) (old mid : List Entry) (new : Cursor) where
  pub wrapped_read : (g n : ℕ) (after : Cursor) (base : List Entry) (t : Cst) → mid ≡ with_opened keeps at old
      → Adds keeps out mid new (Ok g) → n ≡ over (leans l) h g → leb (over (leans l) h g) most_nodes ≡ true
      → after.at ≡ new.at
      → after.row ≡ with_closed keeps (vWhat.Node l) from new.at at new.row → length base ≡ at
      → Writes keeps base old (t ∷ [])
      → IsRead keeps (and_then out (λ ps to. turned_at l from to (single t h) ps)) base after (Ok n)
  wrapped_read g n after base t e adds count few same shut place w = (
    vCst.Node l from new.at (t ∷ adds.0),
    writes_wrapped keeps l from new.at at base old mid new.row after.row t adds.0 e adds.1 shut place w,
    node_gives out l t from h g n adds.0 new.at adds.2 count (ap (λ k. leb k most_nodes) count ∙ few)
        ∙ ap (gives (single (vCst.Node l from new.at (t ∷ adds.0)) n)) (sym same),
  )

  pub wrapped_many : (g : ℕ) (y : SyntaxError) (base : List Entry) (t : Cst) → mid ≡ with_opened keeps at old
      → Adds keeps out mid new (Ok g) → leb (over (leans l) h g) most_nodes ≡ false → length base ≡ at
      → Writes keeps base old (t ∷ [])
      → IsRefused keeps (and_then out (λ ps to. turned_at l from to (single t h) ps)) base new.row y
  wrapped_many g y base t e adds past place w = (
    keeps_opened_before keeps at base old mid new.row (t ∷ []) place w e
        (keeps_written keeps mid new.row adds.0 adds.1),
    λ memory. node_many out l t from h g adds.0 new.at adds.2 past,
  )

  pub wrapped_refused : (y : SyntaxError) (base : List Entry) (t : Cst) → mid ≡ with_opened keeps at old
      → IsRefused keeps out mid new.row y → length base ≡ at → Writes keeps base old (t ∷ [])
      → IsRefused keeps (and_then out (λ ps to. turned_at l from to (single t h) ps)) base new.row y
  wrapped_refused y base t e told place w = (
    keeps_opened_before keeps at base old mid new.row (t ∷ []) place w e told.0,
    λ memory. node_none out l t from h (told.1 memory),
  )

-- ---- one turn of a chain

module _ (out : Out Read) (first : ℕ) where
  pub turn_read : (g n at to : ℕ) (old mid after : List Entry) (new : Cursor) → at ≡ length old → mid ≡ old ++ opened
      → Adds true out mid new (Ok g) → n ≡ max first (suc g) → leb (max first (suc g)) most_nodes ≡ true → to ≡ new.at
      → after ≡ closed vWhat.Parts 0 to at new.row
      → IsTurn out first old (record { at = new.at; row = after }) (Ok n)
  turn_read g n at to old mid after new place e adds count few ends shut = (
    adds.1.0,
    g,
    closes vWhat.Parts 0 new.at at old new.row after adds.1.0 place
        (adds.1.1 ∙ ap (λ (es : List Entry). es ++ entries_of adds.1.0) e)
        (shut ∙ ap (λ k. closed vWhat.Parts 0 k at new.row) ends),
    adds.2 ∙ ap (λ (us : List Cst). gives (group us g) new.at) (sym adds.1.2),
    count,
    ap (λ k. leb k most_nodes) count ∙ few,
  )

  pub turn_many : (g : ℕ) (old mid : List Entry) (new : Cursor) (e : SyntaxError) → mid ≡ old ++ opened
      → Adds true out mid new (Ok g) → leb (max first (suc g)) most_nodes ≡ false → IsTurn out first old new (Err e)
  turn_many g old mid new e written adds past = (
    keeps_opened true old mid new.row written (keeps_written true mid new.row adds.0 adds.1),
    λ memory l t from leaning. node_many out l t from first g adds.0 new.at adds.2
        (ap (λ b. leb (over b first g) most_nodes) leaning ∙ past),
  )

  pub turn_refused : (old mid : List Entry) (new : Cursor) (e : SyntaxError) → mid ≡ old ++ opened
      → IsRefused true out mid new.row e → IsTurn out first old new (Err e)
  turn_refused old mid new e written told = (
    keeps_opened true old mid new.row written told.0,
    λ memory l t from leaning. node_none out l t from first (told.1 memory),
  )

  pub turn_failed : (old : List Entry) (new : Cursor) (r : Result ℕ SyntaxError) (y e : SyntaxError) → r ≡ Err y
      → y ≡ e → IsTurn out first old new (Err e) → IsTurn out first old new r
  turn_failed old new r y e is_err same told =
      let P : Result ℕ SyntaxError → Type 0 = λ r. IsTurn out first old new r in
      subst P (sym (is_err ∙ ap Err same)) told

-- ---- turns that each make a node of their own

-- what all turns make of the operand is what the turns left make of what was read, which stands in its place
pub record IsNested (keeps : Bool) (whole : Out Read) (rest : Read → Out Read) (h : ℕ) (base row : List Entry) : Type 0
  where
    pub tree : Cst
    pub written : Writes keeps base row (tree ∷ [])
    pub same : whole ≡ rest (single tree h)

-- what so many turns make from a place on
abbrev pub rest_at : List Key → NodeKind → Predicate → (ℕ → Out Read) → ℕ → ℕ → ℕ → Read → Out Read
rest_at K l t parts from n at q = wraps_at K l t parts from n q at

module _ (keeps : Bool) (K : List Key) (l : NodeKind) (t : Predicate) (parts : ℕ → Out Read) (from : ℕ)
    (whole : Out Read)
    (base : List Entry) where
  pub nested_more : (n h g : ℕ) (old new : Cursor) → (n ≡ 0 → ⊥)
      → (nest : IsNested keeps whole (rest_at K l t parts from n old.at) h base old.row) → t K old.at ≡ true
      → IsRead keeps (turn_at K l t parts from (single nest.tree h) old.at) base new (Ok g)
      → IsNested keeps whole (rest_at K l t parts from (n - 1) new.at) g base new.row
  nested_more n h g old new some nest here turn = record {
    tree = turn.0;
    written = turn.1;
    same = nest.same ∙ wraps_more K l t parts from n (single nest.tree h) old.at (single turn.0 g) new.at some here
        turn.2;
  }

  pub nested_stuck : (n h : ℕ) (old : Cursor) (new : List Entry) (e : SyntaxError)
      → (nest : IsNested keeps whole (rest_at K l t parts from n old.at) h base old.row) → t K old.at ≡ true
      → IsRefused keeps (turn_at K l t parts from (single nest.tree h) old.at) base new e
      → IsRefused keeps whole base new e
  nested_stuck n h old new e nest here told = (
    told.0,
    λ memory. nest.same ∙ wraps_stuck K l t parts from n (single nest.tree h) old.at here (told.1 memory),
  )

  pub nested_full : (n h : ℕ) (old : Cursor) (e : SyntaxError) → n ≡ 0
      → (nest : IsNested keeps whole (rest_at K l t parts from n old.at) h base old.row) → t K old.at ≡ true
      → IsRefused keeps whole base old.row e
  nested_full n h old e over nest here = (
    keeps_written keeps base old.row (nest.tree ∷ []) nest.written,
    λ memory. nest.same ∙ wraps_full K l t parts from n (single nest.tree h) old.at over here,
  )

  pub nested_end : (n h : ℕ) (old : Cursor)
      → (nest : IsNested keeps whole (rest_at K l t parts from n old.at) h base old.row)
      → t K old.at ≡ false → IsRead keeps whole base old (Ok h)
  nested_end n h old nest there = (
    nest.tree,
    nest.written,
    nest.same ∙ wraps_end K l t parts from n (single nest.tree h) old.at there,
  )
