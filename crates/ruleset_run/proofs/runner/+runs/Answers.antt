use Rattle.std.proofs.Common.{◌≡◌, ◌++◌, ◌∷◌, Some, map, true, refl, sym, ◌∙◌, ap, subst, arith}
use Rattle.std.specs.Option.{option_copied}
use Rattle.std.proofs.lemmas.List.{append_assoc}
use Rattle.std.proofs.lemmas.Result.{err_from_is_err_and}
use Rattle.mail_base.specs.Masks.{mask_of}
use Rattle.rule_match.specs.Kept.{IsChoice}
use Rattle.ruleset_run.specs.Cutting.{is_cut_left, left_lists}
use Rattle.ruleset_run.specs.Filling.{OneCall, OneToken, call_name, is_cut_right, tokens_in}
use Rattle.ruleset_run.specs.Sites.{site_of}
use Rattle.ruleset_run.specs.Runs.{Done, Runs, RunsAt, SetRuns, known, matched}
use Rattle.ruleset_run.specs.inner.Filler.{StandBy, fronts_parts, parts_of}
use Rattle.ruleset_run.specs.inner.Values.{Known, lates}
use Rattle.ruleset_run.proofs.Moves.{ends_weaker, deep_at, replaced_plain, tokens_done, parts_are, call_size, call_fails, call_long, call_gave}
use Rattle.ruleset_run.proofs.FillLemmas.{fronts_few, fronts_popped, front_size, popped_size}
use Rattle.ruleset_run.proofs.SetLemmas.{found_rules}
use Rattle.ruleset_run.proofs.Skipping.{below_length, all_passed}
use Rattle.ruleset_run.proofs.Naming.{call_unnamed, call_named}
use Rattle.ruleset_run.proofs.Walking.{is_cut_as, apply_limit, apply_unscanned, apply_unfilled, apply_long, apply_replaced, kept_stand, walk_unread, walk_unmatched, walk_refused, walk_resolved, walk_returned, walk_next, walk_again}
use Rattle.ruleset_run.proofs.runner.+runs.Goals as goal
use Rattle.ruleset_run.proofs.runner.+runs.Goals.{run_rules-in-Again, run_rules-in-Next}

pub apply-returns-then-not-branch-clause-takes : goal.apply-returns-then-not-branch-clause-takes
apply-returns-then-not-branch-clause-takes t c = λ times lt.
    let a = c.args in
    let site = site_of a.config.now a.maps.now in
    let scan = ap (is_cut_right (lates a.values.now)) (sym c.items-steps.ensures) ∙ sym c.in_ok-is_cut.ensures.value ∙ c.if-not-branch.true in
    apply_unscanned site (RunsAt site a.left) a.rule.now a.now.now.tokens a.now.now.work a.values.now c.requires.operators c.requires.cut a.cuts.now c.requires.choice times lt c.requires.work scan

pub apply-fill-requires-clause-cuts : goal.apply-fill-requires-clause-cuts
apply-fill-requires-clause-cuts t c =
    let a = c.args in
    let site = site_of a.config.now a.maps.now in
    (matched a.rule.now a.now.now.tokens c.requires.choice.0, is_cut_as site (RunsAt site a.left) a.rule.now a.now.now.tokens a.now.now.work a.values.now c.requires.operators c.requires.cut a.cuts.now c.requires.choice)

pub apply-returns-in_err-parts-clause-takes : goal.apply-returns-in_err-parts-clause-takes
apply-returns-in_err-parts-clause-takes t c = λ times lt.
    let a = c.args in
    let site = site_of a.config.now a.maps.now in
    let scan = ap (is_cut_right (lates a.values.now)) (sym c.items-steps.ensures) ∙ sym c.in_ok-is_cut.ensures.value ∙ c.if-not-branch.false in
    let found = matched a.rule.now a.now.now.tokens c.requires.choice.0 in
    let cut_as = is_cut_as site (RunsAt site a.left) a.rule.now a.now.now.tokens a.now.now.work a.values.now c.requires.operators c.requires.cut a.cuts.now c.requires.choice in
    let fills = rw (c.in_ok-is_cut.ensures.same, c.items-steps.ensures) at (c.in_err-parts.ensures.fills found cut_as) in
    let p = err_from_is_err_and c.from_residual-in_err-parts.result c.from_residual-in_err-parts.ensures.1 in
    rw (p.1, p.2) (apply_unfilled site (RunsAt site a.left) a.rule.now a.now.now.tokens a.now.now.work a.values.now c.requires.operators c.requires.cut a.cuts.now c.requires.choice times lt c.requires.work scan _ fills)

pub apply-returns-then-parts-clause-takes : goal.apply-returns-then-parts-clause-takes
apply-returns-then-parts-clause-takes t c = λ times lt.
    let a = c.args in
    let site = site_of a.config.now a.maps.now in
    let scan = ap (is_cut_right (lates a.values.now)) (sym c.items-steps.ensures) ∙ sym c.in_ok-is_cut.ensures.value ∙ c.if-not-branch.false in
    let found = matched a.rule.now a.now.now.tokens c.requires.choice.0 in
    let cut_as = is_cut_as site (RunsAt site a.left) a.rule.now a.now.now.tokens a.now.now.work a.values.now c.requires.operators c.requires.cut a.cuts.now c.requires.choice in
    let fills = rw (c.in_ok-is_cut.ensures.same, c.items-steps.ensures) at (c.in_ok-parts.ensures.fills found cut_as) in
    apply_long site (RunsAt site a.left) a.rule.now a.now.now.tokens a.now.now.work a.values.now c.requires.operators c.requires.cut a.cuts.now c.requires.choice times lt c.requires.work scan c.in_ok-parts.parts c.fill.new.values.macros fills c.if-parts.true

pub apply-replace-requires : goal.apply-replace-requires
apply-replace-requires t c =
    let a = c.args in
    let site = site_of a.config.now a.maps.now in
    let scan = ap (is_cut_right (lates a.values.now)) (sym c.items-steps.ensures) ∙ sym c.in_ok-is_cut.ensures.value ∙ c.if-not-branch.false in
    let found = matched a.rule.now a.now.now.tokens c.requires.choice.0 in
    let cut_as = is_cut_as site (RunsAt site a.left) a.rule.now a.now.now.tokens a.now.now.work a.values.now c.requires.operators c.requires.cut a.cuts.now c.requires.choice in
    let fills = rw (c.in_ok-is_cut.ensures.same, c.items-steps.ensures) at (c.in_ok-parts.ensures.fills found cut_as) in
    let stand = kept_stand site (RunsAt site a.left) a.rule.now a.now.now.tokens a.now.now.work a.values.now c.requires.operators c.requires.cut a.cuts.now c.requires.choice 0 (omega arith) c.requires.work scan c.in_ok-parts.parts c.fill.new.values.macros fills c.if-parts.false in
    (omega arith, (c.in_ok-parts.ensures.operators ∙ ap (λ (k : Known). k.operators) c.in_ok-is_cut.ensures.same ∙ c.requires.operators, (c.in_ok-parts.ensures.settled, (stand, (c.if-parts.false, omega (arith, c.requires.work))))))

pub apply-returns-clause-takes : goal.apply-returns-clause-takes
apply-returns-clause-takes t c = λ times lt.
    let a = c.args in
    let site = site_of a.config.now a.maps.now in
    let scan = ap (is_cut_right (lates a.values.now)) (sym c.items-steps.ensures) ∙ sym c.in_ok-is_cut.ensures.value ∙ c.if-not-branch.false in
    let found = matched a.rule.now a.now.now.tokens c.requires.choice.0 in
    let cut_as = is_cut_as site (RunsAt site a.left) a.rule.now a.now.now.tokens a.now.now.work a.values.now c.requires.operators c.requires.cut a.cuts.now c.requires.choice in
    let fills = rw (c.in_ok-is_cut.ensures.same, c.items-steps.ensures) at (c.in_ok-parts.ensures.fills found cut_as) in
    apply_replaced site (RunsAt site a.left) a.rule.now a.now.now.tokens a.now.now.work a.values.now c.requires.operators c.requires.cut a.cuts.now c.requires.choice times lt c.requires.work scan c.in_ok-parts.parts c.fill.new.values.macros fills c.if-parts.false
    c.replace.new.values.macros c.replace.result c.replace.ensures.run

pub call-returns-then-left-eq0-clause-run : goal.call-returns-then-left-eq0-clause-run
call-returns-then-left-eq0-clause-run t c = deep_at (site_of c.args.config.now c.args.maps.now) c.args.left _ _ _ _ (omega arith)

pub call-returns-in_default-clause-run : goal.call-returns-in_default-clause-run
call-returns-in_default-clause-run t c = call_unnamed (site_of c.args.config.now c.args.maps.now) c.args.left c.args.start.tokens c.args.start.work c.args.values.now.macros c.new.result (omega arith) c.in_default.ensures.none c.new.ensures

pub call-returns-in-Word-clause-run : goal.call-returns-in-Word-clause-run
call-returns-in-Word-clause-run t c =
    call_named (site_of c.args.config.now c.args.maps.now) c.args.left c.args.start.tokens c.in-Some.tokens c.in-Some.token c.in-Some.ensures.some c.text.result.now (c.text.ensures ∙ sym (ap call_name c.in-Word.is)) (omega arith)
    c.args.start.work c.args.values.now.macros c.run_set.new.values.macros c.run_set.result c.run_set.ensures.run

pub call-returns-clause-run : goal.call-returns-clause-run
call-returns-clause-run t c =
    call_named (site_of c.args.config.now c.args.maps.now) c.args.left c.args.start.tokens c.in-Some.tokens c.in-Some.token c.in-Some.ensures.some c.in_ok-name.name c.in_ok-name.ensures (omega arith)
    c.args.start.work c.args.values.now.macros c.run_set-2.new.values.macros c.run_set-2.result c.run_set-2.ensures.run

pub replace-calls-init : goal.replace-calls-init
replace-calls-init t c =
    let a = c.args in
    let called = RunsAt (site_of a.config.now a.maps.now) a.left in
    let stand = subst (λ b. StandBy b a.parts.fronts a.parts.last a.parts.count (parts_of a.parts.fronts a.parts.last)) c.requires.short c.requires.parts in
    let is = c.into_vec-fronts.ensures in
    record {
      done = map OneToken a.parts.last;
      parts = ap (λ fs. parts_of fs a.parts.last) (sym is);
      before = stand.1 ∙ ap (λ fs. tokens_in (fronts_parts fs)) (sym is);
      few = fronts_few a.parts.fronts a.parts.last a.parts.count stand.1 stand.2;
      run = replaced_plain called a.values.now.macros a.work a.parts.last _;
      grew = omega arith;
      work = c.requires.work;
      operators = refl;
      settled = c.requires.settled;
    }

pub replace-overflow_sub-before-in-Some : goal.replace-overflow_sub-before-in-Some
replace-overflow_sub-before-in-Some t c =
    let l = c.calls in
    omega (arith, l.invariant.before, popped_size l.fronts.items c.pop.new.self.items c.in-Some.front c.in-Some.ensures.items)

pub replace-returns-in_err-ran-clause-run : goal.replace-returns-in_err-ran-clause-run
replace-returns-in_err-ran-clause-run t c =
    let a = c.args in
    let l = c.calls in
    let i = l.invariant in
    let called = RunsAt (site_of a.config.now a.maps.now) a.left in
    let now : Done = record { tokens = l.now.tokens; work = l.now.work; macros = l.values.macros } in
    let p = err_from_is_err_and c.from_residual.result c.from_residual.ensures.1 in
    rw (p.1, p.2) (call_fails called (parts_of a.parts.fronts a.parts.last) (fronts_parts l.fronts.items) (fronts_parts c.pop.new.self.items ++ map OneToken c.in-Some.front) i.done i.parts (fronts_popped l.fronts.items c.pop.new.self.items c.in-Some.front c.in-Some.ensures.items) a.work a.values.now.macros now i.run _ c.in_err-ran.ensures.run)

pub replace-returns-then-len-before-clause-run : goal.replace-returns-then-len-before-clause-run
replace-returns-then-len-before-clause-run t c =
    let a = c.args in
    let l = c.calls in
    let i = l.invariant in
    let called = RunsAt (site_of a.config.now a.maps.now) a.left in
    let now : Done = record { tokens = l.now.tokens; work = l.now.work; macros = l.values.macros } in
    let got : Done = record { tokens = c.in_ok-ran.ran.tokens; work = c.in_ok-ran.ran.work; macros = c.call.new.values.macros } in
    let size = call_size called (parts_of a.parts.fronts a.parts.last) (fronts_parts l.fronts.items) (fronts_parts c.pop.new.self.items ++ map OneToken c.in-Some.front) i.done i.parts (fronts_popped l.fronts.items c.pop.new.self.items c.in-Some.front c.in-Some.ensures.items) a.work a.values.now.macros now i.run in
    call_long called (parts_of a.parts.fronts a.parts.last) (fronts_parts l.fronts.items) (fronts_parts c.pop.new.self.items ++ map OneToken c.in-Some.front) i.done i.parts (fronts_popped l.fronts.items c.pop.new.self.items c.in-Some.front c.in-Some.ensures.items) a.work a.values.now.macros now i.run got c.in_ok-ran.ensures.run (omega (arith, i.before, i.few, size, c.len.ensures))

pub replace-calls-preserved : goal.replace-calls-preserved
replace-calls-preserved t c =
    let a = c.args in
    let l = c.calls in
    let i = l.invariant in
    let called = RunsAt (site_of a.config.now a.maps.now) a.left in
    let now : Done = record { tokens = l.now.tokens; work = l.now.work; macros = l.values.macros } in
    let got : Done = record { tokens = c.in_ok-ran.ran.tokens; work = c.in_ok-ran.ran.work; macros = c.call.new.values.macros } in
    let size = call_size called (parts_of a.parts.fronts a.parts.last) (fronts_parts l.fronts.items) (fronts_parts c.pop.new.self.items ++ map OneToken c.in-Some.front) i.done i.parts (fronts_popped l.fronts.items c.pop.new.self.items c.in-Some.front c.in-Some.ensures.items) a.work a.values.now.macros now i.run in
    let new = fronts_parts c.pop.new.self.items in
    let front = map OneToken c.in-Some.front in
    record {
      done = front ++ OneCall ∷ i.done;
      parts = parts_are called (parts_of a.parts.fronts a.parts.last) (fronts_parts l.fronts.items) (fronts_parts c.pop.new.self.items ++ map OneToken c.in-Some.front) i.done i.parts (fronts_popped l.fronts.items c.pop.new.self.items c.in-Some.front c.in-Some.ensures.items) a.work a.values.now.macros now i.run ∙ append_assoc new front (OneCall ∷ i.done);
      before = omega (arith, i.before, popped_size l.fronts.items c.pop.new.self.items c.in-Some.front c.in-Some.ensures.items);
      few = omega (arith, i.few);
      run = rw c.in_ok-joined.ensures
          (tokens_done called (OneCall ∷ i.done) a.work a.values.now.macros got c.in-Some.front (tokens_in new) (tokens_in (new ++ front)) (front_size c.pop.new.self.items c.in-Some.front)
          (call_gave called (parts_of a.parts.fronts a.parts.last) (fronts_parts l.fronts.items) (fronts_parts c.pop.new.self.items ++ map OneToken c.in-Some.front) i.done i.parts (fronts_popped l.fronts.items c.pop.new.self.items c.in-Some.front c.in-Some.ensures.items) a.work a.values.now.macros now i.run got c.in_ok-ran.ensures.run (omega (arith, i.before, i.few, size, c.len.ensures))));
      grew = omega (arith, i.grew, c.in_ok-ran.ensures.work);
      work = omega (arith, c.in_ok-ran.ensures.work);
      operators = c.in_ok-ran.ensures.operators ∙ i.operators;
      settled = c.in_ok-ran.ensures.settled;
    }

pub run_rules-returns-in_err-is_match-clause-run : goal.run_rules-returns-in_err-is_match-clause-run
run_rules-returns-in_err-is_match-clause-run t c =
    let a = c.args in
    let l = c.loop-number in
    let i = l.invariant in
    let site = site_of a.config.now a.maps.now in
    let ops = i.operators ∙ c.requires.operators in
    let p = err_from_is_err_and c.from_residual.result c.from_residual.ensures.1 in
    rw (p.1, p.2) (walk_unread site (RunsAt site a.left) a.set.now.rules l.from c.in-Some.number l.times c.times_at-times.result c.in-Some.rule.now l.now.tokens l.now.work l.values ops c.in-Some.ensures.some c.times_at-times.ensures (Runs site (RunsAt site a.left) a.set.now.rules 0 a.start.tokens a.start.work a.values.now.macros) i.completes _ c.in_err-is_match.ensures.refused)

pub run_rules-overflow_add-from : goal.run_rules-overflow_add-from
run_rules-overflow_add-from t c =
    let a = c.args in
    omega (arith, c.count-count.ensures, below_length a.set.now.rules c.in-Some.number c.in-Some.rule.now c.in-Some.ensures.some.is)

pub run_rules-loop-number-smaller-then-not-is_match : goal.run_rules-loop-number-smaller-then-not-is_match
run_rules-loop-number-smaller-then-not-is_match t c =
    let a = c.args in
    let i = c.loop-number.invariant in
    omega (arith, i.within, c.in-Some.ensures.some.above, below_length a.set.now.rules c.in-Some.number c.in-Some.rule.now c.in-Some.ensures.some.is)

pub run_rules-loop-number-preserved-then-not-is_match : goal.run_rules-loop-number-preserved-then-not-is_match
run_rules-loop-number-preserved-then-not-is_match t c =
    let a = c.args in
    let l = c.loop-number in
    let i = l.invariant in
    let site = site_of a.config.now a.maps.now in
    let ops = i.operators ∙ c.requires.operators in
    let none = rw c.if-not-is_match.true at c.in_ok-is_match.ensures.found in
    let same = c.in_ok-is_match.ensures.same in
    record {
      completes = λ o run. walk_unmatched site (RunsAt site a.left) a.set.now.rules l.from c.in-Some.number l.times c.times_at-times.result c.in-Some.rule.now l.now.tokens l.now.work l.values ops c.in-Some.ensures.some c.times_at-times.ensures (Runs site (RunsAt site a.left) a.set.now.rules 0 a.start.tokens a.start.work a.values.now.macros) i.completes none.0 none.1 o (rw same at run);
      within = omega (arith, below_length a.set.now.rules c.in-Some.number c.in-Some.rule.now c.in-Some.ensures.some.is);
      times = omega arith;
      grew = i.grew;
      work = i.work;
      operators = ap (λ (k : Known). k.operators) same ∙ i.operators;
      settled = ap (λ (k : Known). k.after) same ∙ i.settled ∙ ap (λ (k : Known). k.macros) (sym same);
      mask = i.mask;
    }

pub run_rules-returns-in_err-check_limits-clause-run : goal.run_rules-returns-in_err-check_limits-clause-run
run_rules-returns-in_err-check_limits-clause-run t c =
    let a = c.args in
    let l = c.loop-number in
    let i = l.invariant in
    let site = site_of a.config.now a.maps.now in
    let ops = i.operators ∙ c.requires.operators in
    let found = rw c.if-not-is_match.false at c.in_ok-is_match.ensures.found in
    let p = err_from_is_err_and c.from_residual-in_err-check_limits.result c.from_residual-in_err-check_limits.ensures.1 in
    rw (p.1, p.2) (walk_refused site (RunsAt site a.left) a.set.now.rules l.from c.in-Some.number l.times c.times_at-times.result c.in-Some.rule.now l.now.tokens l.now.work l.values ops c.in-Some.ensures.some c.times_at-times.ensures (Runs site (RunsAt site a.left) a.set.now.rules 0 a.start.tokens a.start.work a.values.now.macros) i.completes _ (apply_limit site (RunsAt site a.left) c.in-Some.rule.now l.now.tokens l.now.work l.values ops found.0 c.match_of.new.cuts found.1 c.times_at-times.result _ c.in_err-check_limits.ensures.refused))

pub run_rules-apply-requires : goal.run_rules-apply-requires
run_rules-apply-requires t c =
    let a = c.args in
    let l = c.loop-number in
    let i = l.invariant in
    let site = site_of a.config.now a.maps.now in
    let ops = i.operators ∙ c.requires.operators in
    let found = rw c.if-not-is_match.false at c.in_ok-is_match.ensures.found in
    let same = c.in_ok-is_match.ensures.same in (
      omega arith,
      (
        ap (λ (k : Known). k.operators) same ∙ ops,
        (
          ap (λ (k : Known). k.after) same ∙ i.settled ∙ ap (λ (k : Known). k.macros) (sym same),
          (
            subst (λ (k : Known). is_cut_left (lates k) c.in-Some.rule.now.left ≡ true) (sym same) found.0,
            (
              subst (λ (k : Known). IsChoice a.config.now.classes (left_lists (lates k) c.in-Some.rule.now.left) c.in-Some.rule.now.left l.now.tokens c.match_of.new.cuts) (sym same) found.1,
              c.in_ok-check_limits.ensures.within.1,
            ),
          ),
        ),
      ),
    )

pub run_rules-returns-in_err-now-clause-run : goal.run_rules-returns-in_err-now-clause-run
run_rules-returns-in_err-now-clause-run t c =
    let a = c.args in
    let l = c.loop-number in
    let i = l.invariant in
    let site = site_of a.config.now a.maps.now in
    let ops = i.operators ∙ c.requires.operators in
    let p = err_from_is_err_and c.from_residual-in_err-now.result c.from_residual-in_err-now.ensures.1 in
    let taken = rw c.in_ok-is_match.ensures.same at (c.in_err-now.ensures.takes c.times_at-times.result c.in_ok-check_limits.ensures.within.0) in
    rw (p.1, p.2) (walk_refused site (RunsAt site a.left) a.set.now.rules l.from c.in-Some.number l.times c.times_at-times.result c.in-Some.rule.now l.now.tokens l.now.work l.values ops c.in-Some.ensures.some c.times_at-times.ensures (Runs site (RunsAt site a.left) a.set.now.rules 0 a.start.tokens a.start.work a.values.now.macros) i.completes _ taken)

pub run_rules-returns-then-is_resolved-clause-run : goal.run_rules-returns-then-is_resolved-clause-run
run_rules-returns-then-is_resolved-clause-run t c =
    let a = c.args in
    let l = c.loop-number in
    let i = l.invariant in
    let site = site_of a.config.now a.maps.now in
    let ops = i.operators ∙ c.requires.operators in
    let done : Done = record { tokens = c.in_ok-now.now.tokens; work = c.in_ok-now.now.work; macros = c.apply.new.values.macros } in
    let taken = rw c.in_ok-is_match.ensures.same at (c.in_ok-now.ensures.takes c.times_at-times.result c.in_ok-check_limits.ensures.within.0) in
    walk_resolved site (RunsAt site a.left) a.set.now.rules l.from c.in-Some.number l.times c.times_at-times.result c.in-Some.rule.now l.now.tokens l.now.work l.values ops c.in-Some.ensures.some c.times_at-times.ensures (Runs site (RunsAt site a.left) a.set.now.rules 0 a.start.tokens a.start.work a.values.now.macros) i.completes done taken (sym c.is_resolved.ensures ∙ c.if-is_resolved.true)

pub run_rules-overflow_add-from-in-Next : goal.run_rules-overflow_add-from-in-Next
run_rules-overflow_add-from-in-Next t c =
    let a = c.args in
    omega (arith, c.count-count.ensures, below_length a.set.now.rules c.in-Some.number c.in-Some.rule.now c.in-Some.ensures.some.is)

pub run_rules-returns-in-Return-clause-run : goal.run_rules-returns-in-Return-clause-run
run_rules-returns-in-Return-clause-run t c =
    let a = c.args in
    let l = c.loop-number in
    let i = l.invariant in
    let site = site_of a.config.now a.maps.now in
    let ops = i.operators ∙ c.requires.operators in
    let done : Done = record { tokens = c.in_ok-now.now.tokens; work = c.in_ok-now.now.work; macros = c.apply.new.values.macros } in
    let taken = rw c.in_ok-is_match.ensures.same at (c.in_ok-now.ensures.takes c.times_at-times.result c.in_ok-check_limits.ensures.within.0) in
    walk_returned site (RunsAt site a.left) a.set.now.rules l.from c.in-Some.number l.times c.times_at-times.result c.in-Some.rule.now l.now.tokens l.now.work l.values ops c.in-Some.ensures.some c.times_at-times.ensures (Runs site (RunsAt site a.left) a.set.now.rules 0 a.start.tokens a.start.work a.values.now.macros) i.completes done taken (sym c.is_resolved.ensures ∙ c.if-is_resolved.false) c.in-Return.is

pub run_rules-loop-number-preserved : goal.run_rules-loop-number-preserved
run_rules-loop-number-preserved t c =
    let a = c.args in
    let l = c.loop-number in
    let i = l.invariant in
    let site = site_of a.config.now a.maps.now in
    let ops = i.operators ∙ c.requires.operators in
    let done : Done = record { tokens = c.in_ok-now.now.tokens; work = c.in_ok-now.now.work; macros = c.apply.new.values.macros } in
    let taken = rw c.in_ok-is_match.ensures.same at (c.in_ok-now.ensures.takes c.times_at-times.result c.in_ok-check_limits.ensures.within.0) in
    let unresolved = sym c.is_resolved.ensures ∙ c.if-is_resolved.false in
    let behind = below_length a.set.now.rules c.in-Some.number c.in-Some.rule.now c.in-Some.ensures.some.is in
    let operators = c.in_ok-now.ensures.operators ∙ ap (λ (k : Known). k.operators) c.in_ok-is_match.ensures.same ∙ i.operators in
    let mask = c.mask_of-mask-in-Some.ensures ∙ ap mask_of c.items-in-Some.ensures in
    elim c.match-rule.branch [
      | run_rules-in-Again w ↦ rw (w.from-is, w.times-is) (record {
        completes = λ o run. walk_again site (RunsAt site a.left) a.set.now.rules l.from c.in-Some.number l.times c.times_at-times.result c.in-Some.rule.now l.now.tokens l.now.work l.values ops c.in-Some.ensures.some c.times_at-times.ensures (Runs site (RunsAt site a.left) a.set.now.rules 0 a.start.tokens a.start.work a.values.now.macros) i.completes done taken unresolved w.in-Again.is o run;
        within = omega (arith, behind);
        times = omega (arith, c.in_ok-check_limits.ensures.within);
        grew = omega (arith, i.grew, c.in_ok-now.ensures.work);
        work = omega (arith, c.in_ok-now.ensures.work);
        operators = operators;
        settled = c.in_ok-now.ensures.settled;
        mask = mask;
      })
      | run_rules-in-Next w ↦ rw (w.from-is, w.times-is) (record {
        completes = λ o run. walk_next site (RunsAt site a.left) a.set.now.rules l.from c.in-Some.number l.times c.times_at-times.result c.in-Some.rule.now l.now.tokens l.now.work l.values ops c.in-Some.ensures.some c.times_at-times.ensures (Runs site (RunsAt site a.left) a.set.now.rules 0 a.start.tokens a.start.work a.values.now.macros) i.completes done taken unresolved w.in-Next.is o run;
        within = omega (arith, behind);
        times = omega arith;
        grew = omega (arith, i.grew, c.in_ok-now.ensures.work);
        work = omega (arith, c.in_ok-now.ensures.work);
        operators = operators;
        settled = c.in_ok-now.ensures.settled;
        mask = mask;
      })
    ]

pub run_rules-returns-clause-run : goal.run_rules-returns-clause-run
run_rules-returns-clause-run t c =
    let a = c.args in
    let l = c.loop-number in
    let site = site_of a.config.now a.maps.now in
    l.invariant.completes _ (all_passed site (RunsAt site a.left) a.set.now.rules l.now.tokens l.now.work l.values.macros l.from l.times l.invariant.within c.in_default.ensures.none)

pub run_set-returns-in-Some-clause-run : goal.run_set-returns-in-Some-clause-run
run_set-returns-in-Some-clause-run t c =
    let a = c.args in
    let site = site_of a.config.now a.maps.now in
    let found = found_rules site a.name.now c.in-Some.set.now (sym c.get.ensures ∙ ap option_copied c.in-Some.is) in
    ends_weaker c.run_rules.new.values.macros c.run_rules.result (Runs site (RunsAt site a.left) c.in-Some.set.now.rules 0 a.start.tokens a.start.work a.values.now.macros) (SetRuns site (RunsAt site a.left) (Some a.name.now) a.start.tokens a.start.work a.values.now.macros)
    (λ o run. known (Some a.name.now) a.start.tokens a.start.work a.values.now.macros c.in-Some.set.now.rules o found run) c.run_rules.ensures.run
