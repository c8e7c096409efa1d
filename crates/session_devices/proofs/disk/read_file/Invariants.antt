use Rattle.std.proofs.Common.{◌≤◌, vec_len}
use Rattle.session_devices.proofs.disk.read_file.Given as goal

abbrev pub invariant-reading : goal.invariant-reading
invariant-reading g l = vec_len l.bytes ≤ 67_108_864
