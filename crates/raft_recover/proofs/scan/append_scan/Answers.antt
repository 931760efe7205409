use Rattle.std.proofs.Common.{◌-◌, ◌^◌, ◌&&◌, Bool, length, string_bytes, sym, ap, ◌∙◌, subst, arith}
use Rattle.raft_recover.proofs.ScanLemmas.{IsScanning, begun, one_found, stopped, ended, found_ends, ends_within_more}
use Rattle.raft_recover.proofs.scan.append_scan.Goals.{In-Some}
use Rattle.raft_recover.proofs.scan.append_scan.Goals.at as at
use Rattle.raft_recover.proofs.scan.append_scan.Goals as goal

pub loop-at-init : goal.loop-at-init
loop-at-init c = begun c.args.past_damage c.args.part.now (string_bytes c.args.text.now)

pub next_scan_position-requires : goal.next_scan_position-requires
next_scan_position-requires c =
    ends_within_more (length c.args.part.now.bytes) (2 ^ 64 - 1) c.loop-at.at c.in_ok-finding.finding (omega (arith, ap length c.bytes.ensures, c.bytes.type_inv))
    (found_ends c.args.part.now c.loop-at.at c.in_ok-finding.finding c.loop-at.invariant.inside c.in_ok-finding.ensures.ok)

-- behind a finding the scan goes on
goes_on : (c : In-Some) → IsScanning c.args.past_damage c.args.part.now (string_bytes c.args.text.now) (string_bytes c.append_finding.new.text) c.in-Some.next c.are_both_true-undamaged.result
goes_on c =
    let part = c.args.part.now in
    let f = c.in_ok-finding.finding in
    let all = c.are_both_true-undamaged.ensures ∙ ap (λ (b : Bool). c.loop-at.undamaged && b) c.is_undamaged.ensures in
    subst (λ (b : Bool). IsScanning c.args.past_damage part (string_bytes c.args.text.now) (string_bytes c.append_finding.new.text) c.in-Some.next b) (sym all)
    (one_found c.args.past_damage part (string_bytes c.args.text.now) (string_bytes c.loop-at.text) (string_bytes c.append_finding.new.text) c.loop-at.at c.in-Some.next c.loop-at.undamaged f
    c.loop-at.invariant (omega (arith, c.loop-at-test.true, ap length c.bytes.ensures)) c.in_ok-finding.ensures.ok (sym c.next_scan_position.ensures ∙ c.in-Some.is) c.in_ok-append_finding.ensures)

pub loop-at-preserved : goal.loop-at-preserved
loop-at-preserved c = goes_on (at.loop-at-preserved c).In-Some

pub returns-in_default-clause-ok : goal.returns-in_default-clause-ok
returns-in_default-clause-ok c =
    let part = c.args.part.now in
    let f = c.in_ok-finding.finding in
    let all = c.are_both_true-undamaged.ensures ∙ ap (λ (b : Bool). c.loop-at.undamaged && b) c.is_undamaged.ensures in
    rw all
    (stopped c.args.past_damage part (string_bytes c.args.text.now) (string_bytes c.loop-at.text) (string_bytes c.append_finding.new.text) c.loop-at.at c.loop-at.undamaged f
    c.loop-at.invariant (omega (arith, c.loop-at-test.true, ap length c.bytes.ensures)) c.in_ok-finding.ensures.ok (sym c.next_scan_position.ensures ∙ c.in_default.is) c.in_ok-append_finding.ensures)

pub returns-clause-ok : goal.returns-clause-ok
returns-clause-ok c =
    ended c.args.past_damage c.args.part.now (string_bytes c.args.text.now) (string_bytes c.loop-at.text) (string_bytes c.append_end_line.new.text) c.loop-at.at c.loop-at.undamaged
    c.loop-at.invariant (omega (arith, c.loop-at-test.false, ap length c.bytes.ensures, c.loop-at.invariant.inside)) c.in_ok-append_end_line.ensures
