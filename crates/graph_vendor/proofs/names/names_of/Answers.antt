use Rattle.std.proofs.Common.{◌≡◌, ◌+◌, ◌∙◌, ap, ◌∷◌, [], length, length-append, arith}
use Rattle.graph_entry.specs.declared.entry.Entry.{Entry}
use Rattle.graph_builder.specs.Entries.{entries_left}
use Rattle.graph_vendor.proofs.NameLemmas.{fresh, named_more, name_same}
use Rattle.graph_vendor.proofs.names.names_of.Goals as goal

-- the specifiers ascend, so none comes twice
pub add_name-requires : goal.add_name-requires
add_name-requires c =
    fresh c.args.base.now c.args.graph.now.entries (entries_left c.loop-specifier.specifier-iterator)
    c.loop-specifier.names c.in-Some.specifier.now c.in-Module.module (entries_left c.next.new.self)
    c.in_ok-items.ensures.ascending c.loop-specifier.invariant.0
    (c.in-Some.ensures.steps
    ∙ ap (λ (e : Entry). (c.in-Some.specifier.now, e) ∷ entries_left c.next.new.self) c.in-Module.is)

-- one more name
pub loop-specifier-preserved-in-Continue-branch-3 : goal.loop-specifier-preserved-in-Continue-branch-3
loop-specifier-preserved-in-Continue-branch-3 c = (
  named_more c.args.base.now c.args.graph.now.entries (entries_left c.loop-specifier.specifier-iterator)
      c.loop-specifier.names c.add_name.new.names c.in-Some.specifier.now c.in-Module.module c.in_ok-name.name
      (entries_left c.next.new.self) c.loop-specifier.invariant.0
      (c.in-Some.ensures.steps
      ∙ ap (λ (e : Entry). (c.in-Some.specifier.now, e) ∷ entries_left c.next.new.self) c.in-Module.is)
      (name_same c.args.base.now c.loop-specifier.names c.in-Module.module c.len.result c.media_of.result
      c.in_ok-name.name
      c.len.ensures.len c.media_of.ensures c.in_ok-name.ensures.file c.in_ok-name.ensures.target)
      c.in_ok-add_name.ensures,
  let grown : length c.add_name.new.names ≡ length c.loop-specifier.names + 1 =
      ap length c.in_ok-add_name.ensures
      ∙ length-append c.loop-specifier.names ((c.in-Some.specifier.now, c.in_ok-name.name) ∷ []) in
      let small = c.len.ensures.small in
      let count = c.len.ensures.len in
      omega (arith, grown, small, count),
)
