use borrow.Author.Rules.{rules}
use Rattle.rules.proofs.Standing.{is_loaded}
use Rattle.verdict.proofs.Telling.{exact_cleared, judges_cleared}
use Rattle.verdict.proofs.judging.judge_lines.Goals as goal

pub invariant_of-loaded : goal.invariant_of-loaded
invariant_of-loaded c = record { loaded = is_loaded c.requires.loaded }

pub judge-answer-requires : goal.judge-answer-requires
judge-answer-requires c = search (rules, exact_cleared)

pub returns : goal.returns
returns c = record { judges = search (rules, judges_cleared); lines_after = search (rules, judges_cleared) }
