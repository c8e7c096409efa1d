use Rattle.std.proofs.lemmas.Result.{err_from_is_err_and}
use Rattle.alias_expand.proofs.WholeLemmas.{start_none, start_refused, start_some, start_stays, starts_few, tree_read, tree_refused}
use Rattle.alias_expand.proofs.expansion.read.Goals as goal

pub returns-in_err-started-clause-reads : goal.returns-in_err-started-clause-reads
returns-in_err-started-clause-reads g c =
    let a = c.args in
    let p = err_from_is_err_and c.from_residual.result c.from_residual.ensures.1 in
    rw (p.1, p.2) (start_refused a.site.now (g.F.Files.seen a.files.now).map a.address.now a.sender.now _ c.in_err-started.ensures.starts)

pub returns-in-None-clause-reads : goal.returns-in-None-clause-reads
returns-in-None-clause-reads g c =
    let a = c.args in
    start_stays a.site.now (g.F.Files.seen a.files.now).map a.address.now a.sender.now c.start.new.reading (start_none a.site.now (g.F.Files.seen a.files.now).map a.address.now a.sender.now c.in_ok-started.started c.start.new.reading c.in-None.is c.in_ok-started.ensures.starts)

pub read_members-requires : goal.read_members-requires
read_members-requires g c =
    let a = c.args in
    starts_few a.site.now (g.F.Files.seen a.files.now).map a.address.now a.sender.now c.in-Some.opened c.start.new.reading (start_some a.site.now (g.F.Files.seen a.files.now).map a.address.now a.sender.now c.in_ok-started.started c.in-Some.opened c.start.new.reading c.in-Some.is c.in_ok-started.ensures.starts)

pub returns-in_err-read_members-in-Some-clause-reads : goal.returns-in_err-read_members-in-Some-clause-reads
returns-in_err-read_members-in-Some-clause-reads g c =
    let a = c.args in
    let p = err_from_is_err_and c.from_residual-in_err-read_members-in-Some.result c.from_residual-in_err-read_members-in-Some.ensures.1 in
    rw (p.1, p.2) (tree_refused a.site.now (g.F.Files.seen a.files.now).map a.address.now a.sender.now c.in-Some.opened c.start.new.reading (start_some a.site.now (g.F.Files.seen a.files.now).map a.address.now a.sender.now c.in_ok-started.started c.in-Some.opened c.start.new.reading c.in-Some.is c.in_ok-started.ensures.starts) (g.F.Files.seen c.start.new.files).map c.in_ok-started.ensures.asks.fixed _ c.in_err-read_members-in-Some.ensures.reads)

pub returns-in_ok-read_members-in-Some-clause-reads : goal.returns-in_ok-read_members-in-Some-clause-reads
returns-in_ok-read_members-in-Some-clause-reads g c =
    let a = c.args in
    tree_read a.site.now (g.F.Files.seen a.files.now).map a.address.now a.sender.now c.in-Some.opened c.start.new.reading (start_some a.site.now (g.F.Files.seen a.files.now).map a.address.now a.sender.now c.in_ok-started.started c.in-Some.opened c.start.new.reading c.in-Some.is c.in_ok-started.ensures.starts) (g.F.Files.seen c.start.new.files).map c.in_ok-started.ensures.asks.fixed c.read_members.new.reading c.in_ok-read_members-in-Some.ensures.reads
