-- put_page meets its contract: it is the page of the table and the log, from the first place on. Assumes nothing.
use Rattle.report.specs.Page.{rule_page}
use Rattle.appending.proofs.Storing.{appends_whole}
use Rattle.report.proofs.put_page.Goals as goal

pub returns : goal.returns
unfolding rule_page
returns c =
    let a = c.args in
    let p = c.put_log_page in
    appends_whole (rule_page a.table a.steps.now) a.out.now p.new.out p.result (p.ensures a.table c.pack.ensures)
