-- What a chain of turns that lean left writes of what the table's reader answers: one entry, whatever levels they are
-- of.
use Rattle.std.specs.Prelude.{List, [], ◌∷◌, ◌++◌, Result, Ok, Err, Bool, true, false, Option, Some, None, slice_get, leb}
use Rattle.std.proofs.Common.{◌≡◌, ℕ, zero, suc, ◌+◌, ◌-◌, ◌<◌, length, length-append, refl, sym, ap, ◌∙◌, subst, inl, inr, arith}
use Rattle.std.proofs.lemmas.List.{append-nil, append_assoc}
use Rattle.std.proofs.lemmas.Option.{slice_get_past}
use Rattle.grammar_theory.specs.declared.error.SyntaxError.{SyntaxError}
use Rattle.grammar_theory.specs.declared.error.SyntaxError.TheVariants.{OutOfMemory}
use Rattle.grammar_theory.specs.Key.{Key}
use Rattle.grammar_theory.specs.Productions.{Predicate}
use Rattle.grammar_theory.specs.Plain.{over}
use Rattle.grammar_theory.specs.Reader.{Out, nothing, gives}
use Rattle.es_grammar.specs.declared.rows.NodeKind.{NodeKind}
use Rattle.es_grammar.specs.Conditions.{leans}
use Rattle.es_grammar.specs.declared.cst.tree.Cst.{Cst, out-Cst, out-roll-Cst}
use Rattle.es_grammar.specs.declared.cst.tree.Cst.TheVariants as vCst
use Rattle.es_grammar.specs.declared.cst.tree.Cst.TheOpen.{Cst-F}
use Rattle.es_syntax.specs.declared.entry.Lean.{Lean}
use Rattle.es_syntax.specs.declared.entry.Lean.TheVariants as vLean
use Rattle.es_syntax.specs.declared.entry.What.{What}
use Rattle.es_syntax.specs.declared.entry.What.TheVariants as vWhat
use Rattle.es_syntax.specs.declared.entry.Entry.{Entry}
use Rattle.es_syntax.specs.Held.{label_of}
use Rattle.es_syntax.specs.Trees.{Kept, trees_in, tree_by, turn_parts, leaning_tree, leaned_tree, leant_tree}
use Rattle.es_syntax.specs.Written.{headed, closed, opened}
use Rattle.es_syntax.specs.Forest.{Forest, none, node, entries_of, kept_of, beside, Keeps}
use Rattle.es_syntax.proofs.Forests.{entries_beside, kept_beside, keeps_all, keeps_less}
use Rattle.es_rules.specs.declared.cursor.Cursor.{Cursor}
use Rattle.es_rules.specs.Bounded.{Read, wraps_at}
use Rattle.es_rules.specs.Steps.{single, with_opened, Writes, IsRefused, IsRead, IsTurn, LeadsChain, Reopens}
use Rattle.es_rules.proofs.FormLemmas.{closes_over}
use Rattle.es_rules.proofs.WrapLemmas.{node_gives, wraps_more, wraps_stuck, wraps_full, wraps_end, rest_at, opened_at}

-- a chain's alternative leans
lean_leans : (lean : Lean) → leans (label_of lean) ≡ true
lean_leans vLean.Binary = refl
lean_leans vLean.TypedBinary = refl

leaned_more : (lean : Lean) (from : ℕ) (t : Cst) (ks : List Kept) (k : Kept)
    → leaned_tree lean from t (ks ++ k ∷ []) ≡ leaning_tree lean from (leaned_tree lean from t ks) k
unfolding leaned_tree
leaned_more lean from t [] k = refl
leaned_more lean from t (j ∷ ks) k = leaned_more lean from (leaning_tree lean from t j) ks k

turn_of : (ts : List Cst) → turn_parts (out-Cst (vCst.Parts ts)) ≡ ts
turn_of ts =
    ap (λ (u : Cst). turn_parts (out-Cst u)) (sym (vCst.rolls-Parts ts))
    ∙ ap turn_parts (out-roll-Cst (Cst-F.Parts ts))

-- ---- an operand that is a chain already

-- what stands behind some entries
slice_behind : (base : List Entry) (e : Entry) (es : List Entry) → slice_get (base ++ e ∷ es) (length base) ≡ Some e
slice_behind [] e es = refl
slice_behind (b ∷ base) e es = slice_behind base e es

slice_next : (base : List Entry) (e f : Entry) (es : List Entry)
    → slice_get (base ++ e ∷ f ∷ es) (length base + 1) ≡ Some f
slice_next base e f es =
    let same : base ++ e ∷ f ∷ es ≡ (base ++ e ∷ []) ++ f ∷ es = sym (append_assoc base (e ∷ []) (f ∷ es)) in
    let place : length base + 1 ≡ length (base ++ e ∷ []) = sym (length-append base (e ∷ [])) in
    rw (same, place) (slice_behind (base ++ e ∷ []) f es)

slice_past : (base : List Entry) (e : Entry) → slice_get (base ++ e ∷ []) (length base + 1) ≡ None
slice_past base e =
    slice_get_past (base ++ e ∷ []) (length base + 1) (omega (arith, length-append base (e ∷ [])))

same_entry : (e f : Entry) → Some e ≡ Some f → e ≡ f
same_entry e f h = cc

no_entry : {A : Type 0} (e : Entry) → None ≡ Some e → A
no_entry e h = absurd (let bad : ⊥ = cc in bad)

same_tree : (t u : Cst) → t ∷ [] ≡ u ∷ [] → t ≡ u
same_tree t u h = cc

no_node : (w : What) (f to : ℕ) (p r : Forest) → node w f to p r ≡ none → ⊥
no_node w f to p r h = let bad : ⊥ = cc in bad

-- the chain that goes on: its operand, and its turns
record Resumed (lean : Lean) (from : ℕ) (t : Cst) (base row : List Entry) : Type 0 where
  head : Entry
  operand : Cst
  first : Forest
  turns : Forest
  is : trees_in (kept_of first) ≡ operand ∷ []
  written : row ≡ (base ++ head ∷ []) ++ (entries_of first ++ entries_of turns)
  tree : t ≡ leaned_tree lean from operand (kept_of turns)
  some : turns ≡ none → ⊥

resumed : (lean : Lean) (from : ℕ) (t : Cst) (at : ℕ) (base : List Entry) (s : Forest)
    → trees_in (kept_of s) ≡ t ∷ [] → length base ≡ at → LeadsChain lean from at (base ++ entries_of s)
    → Resumed lean from t base (base ++ entries_of s)
unfolding entries_of kept_of leaned_tree
resumed lean from t at base none is place leads = absurd (let bad : ⊥ = cc in bad)
resumed lean from t at base (node w f to p (node w2 f2 to2 p2 r2)) is place leads = absurd (let bad : ⊥ = cc in bad)
resumed lean from t at base (node w f to none none) is place leads =
    let e : Entry = record { what = w; from = f; to = to; size = 0 } in
    let past : slice_get (base ++ e ∷ []) (at + 1) ≡ None = ap (λ n. slice_get (base ++ e ∷ []) (n + 1)) (sym place)
    ∙ slice_past base e in
    let next : slice_get (base ++ e ∷ []) (at + 1) ≡ Some leads.first = leads.next in
    no_entry leads.first (sym past ∙ next)
resumed lean from t at base (node w f to (node w1 f1 t1 q none) none) is place leads =
    let P = headed w1 f1 t1 (entries_of q) ++ [] in
    let head : Entry = record { what = w; from = f; to = to; size = length P } in
    let first : Entry = record { what = w1; from = f1; to = t1; size = length (entries_of q) } in
    let here : leads.head ≡ head = same_entry leads.head head
    (sym leads.there ∙ (ap (slice_get (base ++ head ∷ (P ++ []))) (sym place) ∙ slice_behind base head (P ++ []))) in
    let next : leads.first ≡ first = same_entry leads.first first
    (sym leads.next ∙ (ap (λ n. slice_get (base ++ head ∷ (P ++ [])) (n + 1)) (sym place)
    ∙ slice_next base head first ((entries_of q ++ []) ++ []))) in
    let size : leads.head.size ≡ suc (length (entries_of q ++ [])) = ap (λ (e : Entry). e.size) here in
    let within : leads.first.size ≡ length (entries_of q) = ap (λ (e : Entry). e.size) next in
    let more : leads.first.size + 1 < leads.head.size = leads.more in
    let long : length (entries_of q ++ []) ≡ length (entries_of q) = ap length (append-nil (entries_of q)) in
    absurd (let bad : ⊥ = omega (arith, size, within, long) in bad)
resumed lean from t at base (node w f to (node w1 f1 t1 q (node w2 f2 t2 q2 r2)) none) is place leads =
    let r = node w2 f2 t2 q2 r2 in
    let P = headed w1 f1 t1 (entries_of q) ++ entries_of r in
    let head : Entry = record { what = w; from = f; to = to; size = length P } in
    let here : leads.head ≡ head = same_entry leads.head head
    (sym leads.there ∙ (ap (slice_get (base ++ head ∷ (P ++ []))) (sym place) ∙ slice_behind base head (P ++ []))) in
    let what : w ≡ vWhat.Lean lean = sym (ap (λ (e : Entry). e.what) here) ∙ leads.what in
    let start : f ≡ from = sym (ap (λ (e : Entry). e.from) here) ∙ leads.begins in
    let operand = tree_by w1 f1 t1 (kept_of q) in
    let whole : tree_by w f to ((t1, operand) ∷ kept_of r) ≡ t =
    same_tree (tree_by w f to ((t1, operand) ∷ kept_of r)) t is in
    let lists : headed w1 f1 t1 (entries_of q) ++ [] ≡ headed w1 f1 t1 (entries_of q) =
    append-nil (headed w1 f1 t1 (entries_of q)) in record {
      head = head;
      operand = operand;
      first = node w1 f1 t1 q none;
      turns = r;
      is = refl;
      written =
          ap (λ (es : List Entry). base ++ head ∷ es) (append-nil P)
          ∙ (sym (append_assoc base (head ∷ []) P)
          ∙ ap (λ (es : List Entry). (base ++ head ∷ []) ++ (es ++ entries_of r)) (sym lists));
      tree = sym whole ∙ ap (λ v. tree_by v f to ((t1, operand) ∷ kept_of r)) what
          ∙ ap (λ n. leant_tree lean n ((t1, operand) ∷ kept_of r)) start;
      some = no_node w2 f2 t2 q2 r2;
    }

-- an operand and the turns so far stand behind an entry that is written anew at the end; with them, what all turns make
-- of what was read is what the turns left make of the chain
pub record IsChain (lean : Lean) (from : ℕ) (whole : Out Read) (rest : Read → Out Read) (h : ℕ) (base row : List Entry)
    (start at : ℕ) : Type 0 where
  pub head : Entry
  pub operand : Cst
  pub first : Forest
  pub turns : Forest
  pub is : trees_in (kept_of first) ≡ operand ∷ []
  pub written : row ≡ (base ++ head ∷ []) ++ (entries_of first ++ entries_of turns)
  pub same : whole ≡ rest (single (leaned_tree lean from operand (kept_of turns)) h)
  pub begins : turns ≡ none → at ≡ start

no_turn : {A : Type 0} (a p : Forest) (to : ℕ) → beside a (node vWhat.Parts 0 to p none) ≡ none → A
unfolding beside
no_turn none p to e = absurd (let bad : ⊥ = cc in bad)
no_turn (node w f t q r) p to e = absurd (let bad : ⊥ = cc in bad)

one_kept : (s : Forest) (t : Cst) → trees_in (kept_of s) ≡ t ∷ [] → (e : ℕ) × (kept_of s ≡ (e, t) ∷ [])
unfolding kept_of
one_kept none t e = absurd (let bad : ⊥ = cc in bad)
one_kept (node w f to p none) t e =
    (to, (let same : tree_by w f to (kept_of p) ≡ t = cc in ap (λ (u : Cst). (to, u) ∷ []) same))
one_kept (node w f to p (node w2 f2 to2 p2 r)) t e = absurd (let bad : ⊥ = cc in bad)

leant_all : (lean : Lean) (from : ℕ) (t : Cst) (first turns : Forest) → trees_in (kept_of first) ≡ t ∷ []
    → (turns ≡ none → ⊥) → leant_tree lean from (kept_of (beside first turns)) ≡ leaned_tree lean from t (kept_of turns)
unfolding leaned_tree kept_of
leant_all lean from t first none is some = absurd (some refl)
leant_all lean from t first (node w f to p r) is some =
    let one = one_kept first t is in
    let turns = node w f to p r in
    ap (leant_tree lean from) (kept_beside first turns ∙ ap (λ (ks : List Kept). ks ++ kept_of turns) one.1)

module _ (lean : Lean) (K : List Key) (g : Predicate) (parts : ℕ → Out Read) (from : ℕ) (whole : Out Read)
    (base : List Entry) (t : Cst) (start : ℕ) where
  abbrev Chain : ℕ → ℕ → List Entry → ℕ → Type 0
  Chain n h row at = IsChain lean from whole (rest_at K (label_of lean) g parts from n at) h base row start at

  -- the operand is the first of the chain, or it is a chain that goes on
  pub chain_start : (n n2 h at : ℕ) (old row : List Entry)
      → whole ≡ wraps_at K (label_of lean) g parts from n (single t h) start → n2 ≡ n → length base ≡ at
      → Writes true base old (t ∷ []) → Reopens lean from at old row → Chain n2 h row start
  unfolding leaned_tree kept_of entries_of
  chain_start n n2 h at old row same left place w (inl e) = record {
    head = record { what = vWhat.Parts; from = 0; to = 0; size = 0 };
    operand = t;
    first = w.0;
    turns = none;
    is = w.2;
    written =
        e ∙ (opened_at at base old w.0 place w.1
        ∙ ap (λ (es : List Entry). (base ++ opened) ++ es) (sym (append-nil (entries_of w.0))));
    same = same ∙ ap (λ k. wraps_at K (label_of lean) g parts from k (single t h) start) (sym left);
    begins = λ _. refl;
  }
  chain_start n n2 h at old row same left place w (inr there) =
      let P : List Entry → Type 0 = λ es. LeadsChain lean from at es in
      let more = resumed lean from t at base w.0 w.2 place (subst P w.1 there.1) in record {
        head = more.head;
        operand = more.operand;
        first = more.first;
        turns = more.turns;
        is = more.is;
        written = there.0 ∙ (w.1 ∙ more.written);
        same =
            same ∙ (ap (λ k. wraps_at K (label_of lean) g parts from k (single t h) start) (sym left)
            ∙ ap (λ u. wraps_at K (label_of lean) g parts from n2 (single u h) start) more.tree);
        begins = λ e. absurd (more.some e);
      }

  keeps_chain : (n h : ℕ) (row new : List Entry) (at : ℕ) → Chain n h row at → Keeps row new → Keeps base new
  keeps_chain n h row new at chain k =
      let es = entries_of chain.first ++ entries_of chain.turns in
      let same : row ≡ base ++ (chain.head ∷ es) = chain.written ∙ append_assoc base (chain.head ∷ []) es in
      keeps_less base (chain.head ∷ es) new (subst (λ (es : List Entry). Keeps es new) same k)

  pub chain_more : (n h m : ℕ) (old new : Cursor) → (n ≡ 0 → ⊥) → Chain n h old.row old.at → g K old.at ≡ true
      → IsTurn (parts old.at) h old.row new (Ok m) → Chain (n - 1) m new.row new.at
  unfolding entries_of kept_of
  chain_more n h m old new some chain here turn =
      let last = node vWhat.Parts 0 new.at turn.0 none in
      let q = leaned_tree lean from chain.operand (kept_of chain.turns) in
      let ts = trees_in (kept_of turn.0) in
      let next = leaning_tree lean from q (new.at, vCst.Parts ts) in
      let all : kept_of (beside chain.turns last) ≡ kept_of chain.turns ++ (new.at, vCst.Parts ts) ∷ [] =
      kept_beside chain.turns last in
      let made : leaned_tree lean from chain.operand (kept_of (beside chain.turns last))
      ≡ vCst.Node (label_of lean) from new.at (q ∷ ts) =
      ap (leaned_tree lean from chain.operand) all
      ∙ (leaned_more lean from chain.operand (kept_of chain.turns) (new.at, vCst.Parts ts)
      ∙ ap (λ (us : List Cst). vCst.Node (label_of lean) from new.at (q ∷ us)) (turn_of ts)) in
      record {
        head = chain.head;
        operand = chain.operand;
        first = chain.first;
        turns = beside chain.turns last;
        is = chain.is;
        written =
            turn.2 ∙ (ap (λ (es : List Entry). es ++ entries_of last) chain.written
            ∙ (append_assoc (base ++ chain.head ∷ []) (entries_of chain.first ++ entries_of chain.turns) (entries_of last)
            ∙ ap (λ (es : List Entry). (base ++ chain.head ∷ []) ++ es)
            (append_assoc (entries_of chain.first) (entries_of chain.turns) (entries_of last)
            ∙ ap (λ (es : List Entry). entries_of chain.first ++ es) (sym (entries_beside chain.turns last)))));
        same =
            chain.same ∙ (wraps_more K (label_of lean) g parts from n (single q h) old.at
            (single (vCst.Node (label_of lean) from new.at (q ∷ ts)) m) new.at some here
            (node_gives (parts old.at) (label_of lean) q from h turn.1 m ts new.at turn.3
            (turn.4 ∙ ap (λ b. over b h turn.1) (sym (lean_leans lean))) turn.5)
            ∙ ap (λ (u : Cst). wraps_at K (label_of lean) g parts from (n - 1) (single u m) new.at) (sym made));
        begins = λ e. no_turn chain.turns turn.0 new.at e;
      }

  pub chain_stuck : (n h : ℕ) (old new : Cursor) (e : SyntaxError) → Chain n h old.row old.at → g K old.at ≡ true
      → IsTurn (parts old.at) h old.row new (Err e) → IsRefused true whole base new.row e
  chain_stuck n h old new e chain here turn = (
    keeps_chain n h old.row new.row old.at chain turn.0,
    λ memory. chain.same ∙ wraps_stuck K (label_of lean) g parts from n
        (single (leaned_tree lean from chain.operand (kept_of chain.turns)) h) old.at here
        (turn.1 memory (label_of lean) (leaned_tree lean from chain.operand (kept_of chain.turns)) from (lean_leans lean)),
  )

  -- memory ran out behind it
  pub chain_lost : (n h : ℕ) (old : Cursor) (new : List Entry) → Chain n h old.row old.at → new ≡ old.row
      → IsRefused true whole base new OutOfMemory
  chain_lost n h old new chain same = (
    keeps_chain n h old.row new old.at chain
        (subst (λ (es : List Entry). Keeps old.row es) (sym same) (keeps_all old.row)),
    λ memory. absurd (memory refl),
  )

  pub chain_full : (n h : ℕ) (old : Cursor) (e : SyntaxError) → n ≡ 0 → Chain n h old.row old.at → g K old.at ≡ true
      → IsRefused true whole base old.row e
  chain_full n h old e over chain here = (
    keeps_chain n h old.row old.row old.at chain (keeps_all old.row),
    λ memory. chain.same ∙ wraps_full K (label_of lean) g parts from n
        (single (leaned_tree lean from chain.operand (kept_of chain.turns)) h) old.at over here,
  )

  pub chain_end : (n h f to place : ℕ) (old : Cursor) (after : List Entry) → Chain n h old.row old.at
      → g K old.at ≡ false → g K start ≡ true → f ≡ from → to ≡ old.at → length base ≡ place
      → after ≡ closed (vWhat.Lean lean) f to place old.row
      → IsRead true whole base (record { at = old.at; row = after }) (Ok h)
  unfolding kept_of
  chain_end n h f to place old after chain there here starts ends at shut =
      let q = leaned_tree lean from chain.operand (kept_of chain.turns) in
      let s = beside chain.first chain.turns in
      let some : chain.turns ≡ none → ⊥ =
      λ e. let bad : true ≡ false = sym here ∙ (ap (g K) (sym (chain.begins e)) ∙ there) in
      let no : ⊥ = cc in no in (
        q,
        (
          node (vWhat.Lean lean) f to s none,
          closes_over (vWhat.Lean lean) f to place base old.row after chain.head s (sym at)
              (chain.written ∙ ap (λ (es : List Entry). (base ++ chain.head ∷ []) ++ es)
              (sym (entries_beside chain.first chain.turns))) shut,
          ap (λ (u : Cst). u ∷ []) (ap (λ k. leant_tree lean k (kept_of s)) starts
              ∙ leant_all lean from chain.operand chain.first chain.turns chain.is some),
        ),
        chain.same ∙ wraps_end K (label_of lean) g parts from n (single q h) old.at there,
      )
