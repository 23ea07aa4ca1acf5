-- The path of the tests has a file name.
use Rattle.std.proofs.Common.{refl}
use Rattle.std.specs.Path.{path_file_name, split_last_component, trim_trailing, rsplit_once}
use Rattle.test_systems.proofs.writes.written.Goals as goal

pub atomic_write_file_with_retries-requires : goal.atomic_write_file_with_retries-requires
unfolding path_file_name split_last_component trim_trailing rsplit_once
atomic_write_file_with_retries-requires g c = refl

pub atomic_write_file-requires : goal.atomic_write_file-requires
unfolding path_file_name split_last_component trim_trailing rsplit_once
atomic_write_file-requires g c = refl
