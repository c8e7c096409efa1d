-- The peers so far, with those of the host that is read and of what is behind it, are those of all.
use Rattle.std.proofs.Common.{◌≡◌, ◌≤◌, ◌++◌, ◌-◌, take, drop}
use Rattle.queue_run.specs.Peers.{cut_at, hosts_in, peers_in}
use Rattle.queue_run.proofs.PeerLemmas.{behind}
use Rattle.queue_run.proofs.peers.peers_in.Given as goal

abbrev pub invariant-loop-place : goal.invariant-loop-place
invariant-loop-place l = record {
  within : l.begin ≤ l.place;
  are : l.peers ++ peers_in l.maps l.port (behind (take (l.place - l.begin) (drop l.begin l.list)) (cut_at l.inside (drop l.place l.list)))
      ≡ peers_in l.maps l.port (hosts_in l.list);
}
