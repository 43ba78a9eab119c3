use Rattle.std.proofs.Common.{◌≡◌, ◌++◌, length, flat_map, refl, sym, subst, ap, ◌∙◌}
use Rattle.pt_records.specs.Made.{meets_of}
use Rattle.pt_trace.specs.MeetingText.{meetings_text}
use Rattle.pt_node.specs.Shown.{shown_node}
use Rattle.pt_node.specs.View.{Outline, kept_of}
use Rattle.pt_trees.specs.Ports.{AreNumbered}
use Rattle.pt_trees.specs.Meetings.{TellMeetings}
use Rattle.pt_reply.specs.Texts.{text_in, with_meetings}
use Rattle.pt_top.proofs.ReportLaws.{same-report}
use Rattle.pt_top.proofs.MeetingsTold.{all-stand, own-texts, all-told, all-formed}
use Rattle.pt_top.proofs.report.report_run.Goals as goal

-- the tree after the run has the numbers that it had before
pub report-requires : goal.report-requires
report-requires c =
    let counted : c.len.result ≡ length c.args.net.now.recorded.items = c.len.ensures ∙ c.args.net.now.recorded.ok.0 in
    subst (λ count. AreNumbered count (shown_node c.run.new.top)) (sym counted) (c.numbers_stay.ensures (length c.args.net.now.recorded.items) (shown_node c.args.top.now) (shown_node c.run.new.top) c.run.ensures.outline c.requires.numbered)

-- what the tree has recorded of meetings can be told
pub write_meetings_of-requires-clause-stands : goal.write_meetings_of-requires-clause-stands
write_meetings_of-requires-clause-stands c = all-stand c.args.net.now (shown_node c.args.top.now) c.args.job.now (shown_node c.run.new.top) c.requires.net c.requires.model c.run.ensures.outline

pub write_meetings_of-requires-clause-apart : goal.write_meetings_of-requires-clause-apart
write_meetings_of-requires-clause-apart c = own-texts c.args.net.now (shown_node c.args.top.now) c.args.job.now (shown_node c.run.new.top) c.requires.net c.requires.model c.run.ensures.outline

pub write_meetings_of-requires-clause-told : goal.write_meetings_of-requires-clause-told
write_meetings_of-requires-clause-told c = all-told c.args.net.now (shown_node c.args.top.now) c.args.job.now (shown_node c.run.new.top) c.requires.net c.requires.model c.args.budget c.in_ok-ran.ran.ended c.requires.runnable c.in_ok-ran.ensures.report

-- the tree that was run, and its report
pub returns-clause-report : goal.returns-clause-report
returns-clause-report c =
    let counted : c.len.result ≡ length c.args.net.now.recorded.items = c.len.ensures ∙ c.args.net.now.recorded.ok.0 in
    let written = c.in_ok-write_meetings_of.ensures in
    let lists = written.0 in
    let report = c.in_ok-report.report in
    record {
      top = shown_node c.args.top.now;
      job = c.args.job.now;
      is_model = c.requires.model;
      numbered = c.requires.numbered;
      after = shown_node c.run.new.top;
      named = c.run.ensures.outline;
      meetings = lists;
      listed = written.1;
      formed = all-formed c.args.net.now (shown_node c.args.top.now) c.args.job.now (shown_node c.run.new.top) c.requires.net c.requires.model c.args.budget c.in_ok-ran.ran.ended c.requires.runnable c.in_ok-ran.ensures.report lists written.1;
      meets = meets_of (kept_of (shown_node c.run.new.top));
      read = subst (λ (o : Outline). TellMeetings c.args.net.now o lists (meets_of (kept_of (shown_node c.run.new.top)))) c.run.ensures.outline written.2;
      ended = c.in_ok-ran.ran.ended;
      is_run = c.in_ok-ran.ensures.report;
      firings = c.in_ok-ran.ran.firings;
      counted = c.in_ok-ran.ensures.counted;
      told = c.status_of-status.ensures;
      printed = c.in_ok-told_in.ensures lists (c.deref.ensures.value ∙ written.3 ∙ ap (λ t. t ++ flat_map meetings_text lists) c.new-lists.ensures.items)
          ∙ ap (λ r. text_in c.args.form c.in_ok-ran.ran.firings r) (same-report c.args.net.now lists (shown_node c.run.new.top) c.in_ok-ran.ran.ended c.len.result (with_meetings report lists) counted c.in_ok-report.ensures.traces refl c.in_ok-report.ensures.end);
    }
