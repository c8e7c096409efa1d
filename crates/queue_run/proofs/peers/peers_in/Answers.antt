-- A host ends at a colon outside brackets; any other byte belongs to the one that is read.
use Rattle.std.proofs.Common.{[], ◌++◌, ◌+◌, ◌-◌, false, take, drop, get_or, ap, ◌∙◌, arith}
use Rattle.queue_run.specs.Peers.{cut_at, peers_in}
use Rattle.queue_run.proofs.PeerLemmas.{at_colon, at_other, behind, behind_none, not_cut, peers_at}
use Rattle.queue_run.proofs.peers.peers_in.Goals as goal

pub loop-place-init : goal.loop-place-init
loop-place-init c = record {
  within = omega arith;
  are = ap (λ q. q ++ peers_in c.args.maps.now c.args.port (behind [] (cut_at false c.args.list.now))) c.new-peers.ensures
      ∙ ap (peers_in c.args.maps.now c.args.port) (behind_none false c.args.list.now);
}

pub loop-place-preserved-then-not-inside : goal.loop-place-preserved-then-not-inside
loop-place-preserved-then-not-inside c =
    let l = c.loop-place in
    let list = c.args.list.now in
    record {
      within = omega arith;
      are = ap (λ q. q ++ peers_in c.args.maps.now c.args.port (behind (take (l.place + 1 - (l.place + 1)) (drop (l.place + 1) list)) (cut_at l.inside (drop (l.place + 1) list)))) c.in_ok-add_peer.ensures
          ∙ at_colon (peers_at c.args.maps.now c.args.port) l.peers list l.begin l.place l.inside c.loop-place-test.true c.if-byte-eq58.true c.if-not-inside.true
          ∙ l.invariant.are;
    }

pub loop-place-preserved : goal.loop-place-preserved
loop-place-preserved c =
    let l = c.loop-place in
    let list = c.args.list.now in
    record {
      within = omega arith;
      are = ap (λ q. l.peers ++ peers_in c.args.maps.now c.args.port (behind (take (l.place + 1 - l.begin) (drop l.begin list)) (cut_at q (drop (l.place + 1) list)))) c.is_inside-inside.ensures
          ∙ at_other (peers_at c.args.maps.now c.args.port) l.peers list l.begin l.place l.inside l.invariant.within c.loop-place-test.true (not_cut (get_or list l.place 0) l.inside c.else-byte-eq58.either)
          ∙ l.invariant.are;
    }
