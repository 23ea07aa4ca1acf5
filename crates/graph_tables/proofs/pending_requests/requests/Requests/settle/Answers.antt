use Rattle.std.proofs.Common.{rules, ◌≡◌, ◌≤◌, ◌<◌, ◌∙◌, sym, ap, subst, false, Bool, List, length, Some, None, arith}
use Rattle.std.specs.Prelude.{slice_set}
use Rattle.graph_tables.specs.pending_requests.Inside.{at_url, found_from, IsPassed, IsNext}
use Rattle.std.proofs.Common.{drop, ◌+◌}
use Rattle.graph_tables.proofs.pending_requests_lemmas.RequestLemmas.{unfound, first_within, passed_set, kept_less, found_first, marked_set}
use Rattle.graph_tables.proofs.pending_requests.requests.Requests.settle.Goals as goal

pub returns-in_default-clause-waiting : goal.returns-in_default-clause-waiting
returns-in_default-clause-waiting c =
    let none : at_url c.self.inside.firsts.entries c.args.url.now ≡ None = cc in
    rw (← c.self.view_is)
    (sym (unfound c.self.inside.marks.items c.self.inside.all.items c.self.inside.firsts.entries c.args.url.now
    c.self.invariant.index none))

pub later_one-later-requires-clause-within : goal.later_one-later-requires-clause-within
later_one-later-requires-clause-within c =
    let is : at_url c.self.inside.firsts.entries c.args.url.now ≡ Some c.in-Some.first = cc in
    rw c.as_slice-2.ensures.value
    (first_within c.self.inside.marks.items c.self.inside.all.items c.self.inside.firsts.entries c.args.url.now
    c.in-Some.first c.self.invariant.index is)

pub index_mut-requires : goal.index_mut-requires
index_mut-requires c =
    let is : at_url c.self.inside.firsts.entries c.args.url.now ≡ Some c.in-Some.first = cc in
    let below : c.in-Some.first.at < length c.self.inside.marks.items =
    first_within c.self.inside.marks.items c.self.inside.all.items c.self.inside.firsts.entries c.args.url.now
    c.in-Some.first c.self.invariant.index is in
    let same : length c.as_slice-2.result.now ≡ length c.self.inside.marks.items =
    ap length c.as_slice-2.ensures.value in
    omega (arith, below, same, c.as_slice-2.ensures.len)

pub next_open-self-inside-requires-clause-passed : goal.next_open-self-inside-requires-clause-passed
next_open-self-inside-requires-clause-passed c =
    rw c.as_slice-3.ensures.value
    (passed_set c.self.inside.passed c.self.inside.marks.items c.in-Some.first.at c.self.invariant.passed)

pub invariant_of-self : goal.invariant_of-self
invariant_of-self c =
    let is : at_url c.self.inside.firsts.entries c.args.url.now ≡ Some c.in-Some.first = cc in
    let behind : c.later_one-later.result
    ≡ found_from (c.in-Some.first.at + 1) c.self.inside.marks.items c.self.inside.all.items c.args.url.now =
    search rules in
    let same = c.as_slice-3.ensures.value in
    kept_less c.self.inside.all.items c.self.inside.marks.items c.self.inside.passed c.self.inside.firsts.entries
    c.put_later.new.firsts.entries c.args.url.now c.in-Some.first c.later_one-later.result c.self.invariant is behind
    c.put_later.ensures c.next_open-self-inside.result
    (subst (λ (l : List Bool). c.next_open-self-inside.result ≤ length l) same c.next_open-self-inside.ensures.within)
    (subst (λ (l : List Bool). IsPassed c.next_open-self-inside.result l) same c.next_open-self-inside.ensures.passed)
    (subst (λ (l : List Bool). IsNext (drop c.next_open-self-inside.result l)) same
    c.next_open-self-inside.ensures.next)

pub returns-clause-waiting : goal.returns-clause-waiting
returns-clause-waiting c =
    let is : at_url c.self.inside.firsts.entries c.args.url.now ≡ Some c.in-Some.first = cc in
    let behind : c.later_one-later.result
    ≡ found_from (c.in-Some.first.at + 1) c.self.inside.marks.items c.self.inside.all.items c.args.url.now =
    search rules in
    rw (← c.self.view_is)
    (marked_set c.self.inside.marks.items c.self.inside.all.items c.args.url.now c.in-Some.first.at
    (found_first c.self.inside.all.items c.self.inside.marks.items c.self.inside.passed c.self.inside.firsts.entries
    c.put_later.new.firsts.entries c.args.url.now c.in-Some.first c.later_one-later.result c.self.invariant is behind
    c.put_later.ensures))
