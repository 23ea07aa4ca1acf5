-- The graph of a plan's files is the old graph, renamed.
use Rattle.std.proofs.Common.{◌≡◌, ◌∙◌, ◌++◌, ◌≤◌, refl, sym, ap, subst, ◌⊎◌, inl, inr, true, false, length, Option, Some, None}
use Rattle.std.specs.Prelude.{is_some, Ok, bytes_eq}
use Rattle.std.specs.List.{IsDistinct}
use Rattle.std.proofs.lemmas.Option.{none-some, same_Some}
use Rattle.url.specs.Parts.{Parts}
use Rattle.graph_entry.specs.Specifier.{text_of, loadable}
use Rattle.graph_entry.specs.declared.answer.LoadAnswer.{LoadAnswer}
use Rattle.graph_entry.specs.Reading.{Reading, IsFunction}
use Rattle.graph_entry.specs.Ways.{Ways}
use Rattle.graph_entry.specs.declared.entry.Module.{Module}
use Rattle.graph_entry.specs.declared.entry.Entry.{Entry}
use Rattle.graph_entry.specs.declared.entry.Entry.TheVariants as entry
use Rattle.graph_builder.specs.declared.following.Following.{Following}
use Rattle.graph_builder.specs.Rules.{rules_of}
use Rattle.graph_builder.specs.Reach.{Specifier, Answers, IsReached}
use Rattle.graph_builder.specs.Final.{is_redirect, is_module}
use Rattle.graph_builder.specs.Graph.{GraphData, IsGraph, entry_of, texts}
use Rattle.graph_builder.proofs.ByTextLemmas.{has-keys_at}
use Rattle.graph_vendor.specs.declared.plan.VendorPlan.{VendorPlan}
use Rattle.graph_vendor.specs.Names.{Entries, names_in, renamed}
use Rattle.graph_vendor.specs.Plan.{IsPlanned, targets_of}
use Rattle.graph_vendor.specs.vendored.Vendored.{vendored_answers, EntryMoves, Stands, IsVendored}
use Rattle.graph_vendor.proofs.vendored.Setting.{AsParser, rules_with, Setting, entries_of, names_of, new_rules, new_answers}
use Rattle.graph_vendor.proofs.vendored.Entries.{reached_at}
use Rattle.graph_vendor.proofs.vendored.Files.{named, module_renamed, others_named, two_targets, target_free}
use Rattle.graph_vendor.proofs.vendored.News.{newly}
use Rattle.graph_vendor.proofs.vendored.Reached.{NewReaches, new_names, names_reached}
use Rattle.graph_vendor.proofs.vendored.Finals.{final_new}
use Rattle.graph_vendor.proofs.vendored.Graphs.{has_graph, answered}
use Rattle.graph_vendor.proofs.vendored.Apart.{apart}

-- ---- new names differ

abbrev Kind : Entry → Type 0
Kind e = ((m : Module) × (e ≡ entry.Module m)) ⊎ (is_module e ≡ false)

kind : (e : Entry) → Kind e
kind (entry.Module m) = inl (m, refl)
kind (entry.Redirect target) = inr refl
kind (entry.Package held) = inr refl
kind entry.External = inr refl
kind (entry.Error fault) = inr refl

-- a module and what is none
unlike : (v : Setting) (r s : Specifier) (m : Module) (e : Entry) → entry_of (entries_of v) r ≡ Some (entry.Module m)
    → entry_of (entries_of v) s ≡ Some e → is_redirect e ≡ false → is_module e ≡ false
    → renamed (entries_of v) (names_of v) r ≡ renamed (entries_of v) (names_of v) s → ⊥
unlike v r s m e at is stays plain one =
    let n = named v r m at in
    let there : renamed (entries_of v) (names_of v) r ≡ Some (text_of n.target) =
    module_renamed v r m n.target at n.at in
    let here = others_named v s e is stays plain in
    let place : text_of n.target ≡ s = same_Some (text_of n.target) s (sym there ∙ one ∙ here) in
    let free = target_free v r m n.target at n.at in
    none-some e (sym free ∙ ap (entry_of (entries_of v)) place ∙ is)

two_modules : (v : Setting) (r s : Specifier) (m n : Module) → entry_of (entries_of v) r ≡ Some (entry.Module m)
    → entry_of (entries_of v) s ≡ Some (entry.Module n)
    → renamed (entries_of v) (names_of v) r ≡ renamed (entries_of v) (names_of v) s → r ≡ s
two_modules v r s m n at is one =
    let a = named v r m at in
    let b = named v s n is in
    two_targets v r s m n a.target b.target at is a.at b.at
    (same_Some (text_of a.target) (text_of b.target)
    (sym (module_renamed v r m a.target at a.at) ∙ one ∙ module_renamed v s n b.target is b.at))

apart_by : (v : Setting) (r s : Specifier) (d e : Entry) → entry_of (entries_of v) r ≡ Some d → is_redirect d ≡ false
    → entry_of (entries_of v) s ≡ Some e → is_redirect e ≡ false
    → renamed (entries_of v) (names_of v) r ≡ renamed (entries_of v) (names_of v) s → Kind d → Kind e → r ≡ s
apart_by v r s d e at stays is also one (inl a) (inl b) =
    two_modules v r s a.0 b.0 (at ∙ ap Some a.1) (is ∙ ap Some b.1) one
apart_by v r s d e at stays is also one (inl a) (inr b) =
    absurd (unlike v r s a.0 e (at ∙ ap Some a.1) is also b one)
apart_by v r s d e at stays is also one (inr a) (inl b) =
    absurd (unlike v s r b.0 d (is ∙ ap Some b.1) at stays a (sym one))
apart_by v r s d e at stays is also one (inr a) (inr b) =
    same_Some r s (sym (others_named v r d at stays a) ∙ one ∙ others_named v s e is also b)

-- ---- the new graph

module _ (v : Setting) (news : Entries) (new : IsGraph (new_rules v) (texts v.plan.roots) (new_answers v) news) where
  -- what is reached has an entry
  entry_at : (t : Specifier) → NewReaches v t → (x : Entry) × (entry_of news t ≡ Some x)
  entry_at t reached = by (entry_of news t) refl
    where
      by : (o : Option Entry) → entry_of news t ≡ o → (x : Entry) × (entry_of news t ≡ Some x)
      by None e =
          let there : is_some (entry_of news t) ≡ true = sym (has-keys_at news t) ∙ new.members.all t reached in
          let nothing = ap is_some e in absurd (let bad : ⊥ = cc in bad)
      by (Some x) e = (x, e)

  stands : (s t : Specifier) (e x : Entry) → entry_of (entries_of v) s ≡ Some e → is_redirect e ≡ false
      → renamed (entries_of v) (names_of v) s ≡ Some t → entry_of news t ≡ Some x
      → Stands (entries_of v) (names_of v) s e t x
  stands s t e x at stays named there =
      let n = newly v s e at stays in
      let one : n.made ≡ x = final_new v s t e x n at named (new.each t x there) in
      record {
        here = at;
        stays = stays;
        named = named;
        moves = subst (EntryMoves (entries_of v) (names_of v) e) one n.moves;
      }

  is_vendored : IsVendored (entries_of v) (names_of v) news
  is_vendored = record {
    each = λ s e at stays.
        let n = newly v s e at stays in
        let found = entry_at n.name (names_reached v s n.name (reached_at v s e at) n.named) in
        (n.name, found.0, found.1, stands s n.name e found.0 at stays n.named found.1);
    only = λ t x there.
        let name = new_names v t (new.members.reached t (has-keys_at news t ∙ ap is_some there)) in
        (name.s, name.old, stands name.s t name.old x name.at name.stays name.named there);
    apart = λ r s d e at stays is also one. apart_by v r s d e at stays is also one (kind d) (kind e);
  }

-- A graph whose entries are what its answers mean, by any way of resolving, and any of reading that reads a source as
-- one thing at most, has a plan.
module _ (ways : Ways) (following : Following) (reads : Reading) (answers : Answers) (graph : GraphData) (base : Parts)
    (plan : VendorPlan) (once : IsFunction ways.reads) (parser : AsParser reads)
    (old : IsGraph (rules_with ways following) (texts graph.roots) answers graph.entries)
    (planned : IsPlanned reads graph base (Ok plan)) where
  abbrev setting : Setting
  setting = record {
    ways = ways;
    once = once;
    following = following;
    reads = reads;
    parser = parser;
    answers = answers;
    graph = graph;
    base = base;
    plan = plan;
    old = old;
    passes = planned.0;
    made = planned.1;
  }

  -- Then a graph of the plan's roots over the plan's own answers, by the URL Standard and the parser, has its entries
  -- but for redirects, renamed.
  pub vendored : (news : Entries) → IsGraph (rules_of following) (texts plan.roots) (vendored_answers plan) news
      → IsVendored graph.entries (names_in base graph.entries) news
  vendored news new = is_vendored setting news new

  -- There is such a graph, with no more entries.
  pub vendored_graph : (news : Entries) × IsGraph (rules_of following) (texts plan.roots) (vendored_answers plan) news
      × (length news ≤ length graph.entries)
  vendored_graph = let g = has_graph setting in (g.news, g.is_graph, g.few)

  -- Each specifier that is reached there, and that a loader is asked for, is answered.
  pub vendored_answered : (s : Specifier) → IsReached (rules_of following) (texts plan.roots) (vendored_answers plan) s
      → loadable s ≡ true → (a : LoadAnswer) × (vendored_answers plan s ≡ Some a)
  vendored_answered s reached loads = answered setting s reached loads

  -- No two of the plan's files and of what isn't part of the sources have one specifier.
  pub vendored_apart : IsDistinct bytes_eq (targets_of plan.files ++ texts plan.externals)
  vendored_apart = apart setting
