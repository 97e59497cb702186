use Rattle.std.proofs.Common.{◌≡◌, ◌∙◌, arith}
use Rattle.std.proofs.lemmas.Grind.{common_steps}
use Rattle.call.specs.Refusals.{row7, row8}
use Rattle.call.proofs.Laws.{second_stops}
use Rattle.call.proofs.refusals.refusal.Goals as goal

pub returns-in_err-control_refusal-in-RequestReport : goal.returns-in_err-control_refusal-in-RequestReport
returns-in_err-control_refusal-in-RequestReport c =
    let same : c.from_residual-in_err-control_refusal-in-RequestReport.result ≡ c.control_refusal.result = grind (arith, common_steps) in
    rw c.in-RequestReport.is (same ∙ second_stops (row7 c.args.r c.args.t) (row8 c.args.r) _ _ _ _ c.time_refusal-in-RequestReport.ensures c.in_ok-time_refusal-in-RequestReport.was c.control_refusal.ensures c.in_err-control_refusal-in-RequestReport.was)

pub returns-in_err-control_refusal-in-Continue : goal.returns-in_err-control_refusal-in-Continue
returns-in_err-control_refusal-in-Continue c =
    let same : c.from_residual-in_err-control_refusal-in-Continue.result ≡ c.control_refusal-in-Continue.result = grind (arith, common_steps) in
    rw c.in-Continue.is (same ∙ second_stops (row7 c.args.r c.args.t) (row8 c.args.r) _ _ _ _ c.time_refusal-in-Continue.ensures c.in_ok-time_refusal-in-Continue.was c.control_refusal-in-Continue.ensures c.in_err-control_refusal-in-Continue.was)

pub returns-in_err-control_refusal-in-Connect : goal.returns-in_err-control_refusal-in-Connect
returns-in_err-control_refusal-in-Connect c =
    let same : c.from_residual-in_err-control_refusal-in-Connect.result ≡ c.control_refusal-in-Connect.result = grind (arith, common_steps) in
    rw c.in-Connect.is (same ∙ second_stops (row7 c.args.r c.args.t) (row8 c.args.r) _ _ _ _ c.time_refusal-in-Connect.ensures c.in_ok-time_refusal-in-Connect.was c.control_refusal-in-Connect.ensures c.in_err-control_refusal-in-Connect.was)

pub returns-in_err-control_refusal-in-ApplyCharging : goal.returns-in_err-control_refusal-in-ApplyCharging
returns-in_err-control_refusal-in-ApplyCharging c =
    let same : c.from_residual-in_err-control_refusal-in-ApplyCharging.result ≡ c.control_refusal-in-ApplyCharging.result = grind (arith, common_steps) in
    rw c.in-ApplyCharging.is (same ∙ second_stops (row7 c.args.r c.args.t) (row8 c.args.r) _ _ _ _ c.time_refusal-in-ApplyCharging.ensures c.in_ok-time_refusal-in-ApplyCharging.was c.control_refusal-in-ApplyCharging.ensures c.in_err-control_refusal-in-ApplyCharging.was)
