-- Each command is decoded by its first byte.
use Prim.Native.Nat.{◌+◌}
use mathlib.Core.Path.{sym}
use borrow.Author.Rules.{rules}
use Rattle.commands.specs.Commands.{byte}
use Rattle.programs.proofs.Statements.{no_step}
use Rattle.programs.proofs.Decoding.{decodes}
use Rattle.programs.proofs.statement_at.Goals as goal

pub returns-in-48 : goal.returns-in-48
returns-in-48 c = let args = c.args in
    decodes args.s.now args.here.at _ 0x30 c.byte_at.ensures c.in-48.is c.step_at.result (rw (c.step_at.ensures, c.operand-a.ensures, c.operand-b.ensures))

pub returns-in-49 : goal.returns-in-49
returns-in-49 c = let args = c.args in
    decodes args.s.now args.here.at _ 0x31 c.byte_at.ensures c.in-49.is c.step_at-in-49.result (rw (c.step_at-in-49.ensures, c.operand-a.ensures, c.operand-b.ensures))

pub returns-in-50 : goal.returns-in-50
returns-in-50 c = let args = c.args in
    decodes args.s.now args.here.at _ 0x32 c.byte_at.ensures c.in-50.is c.step_at-in-50.result (rw (c.step_at-in-50.ensures, c.operand-a.ensures, c.operand-b.ensures))

pub returns-in-51 : goal.returns-in-51
returns-in-51 c = let args = c.args in
    decodes args.s.now args.here.at _ 0x33 c.byte_at.ensures c.in-51.is c.step_at-in-51.result (rw (c.step_at-in-51.ensures, c.operand-a.ensures, c.operand-b.ensures))

pub returns-in-52 : goal.returns-in-52
returns-in-52 c = let args = c.args in
    decodes args.s.now args.here.at _ 0x34 c.byte_at.ensures c.in-52.is c.step_at-in-52.result (rw (c.step_at-in-52.ensures, c.operand-a.ensures))

pub returns-in-53 : goal.returns-in-53
returns-in-53 c = let args = c.args in
    decodes args.s.now args.here.at _ 0x35 c.byte_at.ensures c.in-53.is c.step_at-in-53.result (rw (c.step_at-in-53.ensures, c.operand-a.ensures, c.operand-b.ensures, c.operand-c.ensures, c.operand-d.ensures))

pub returns-in-54 : goal.returns-in-54
returns-in-54 c = let args = c.args in
    decodes args.s.now args.here.at _ 0x36 c.byte_at.ensures c.in-54.is c.step_at-in-54.result (rw (c.step_at-in-54.ensures, c.operand-a.ensures, c.operand-b.ensures, c.operand-c.ensures, c.operand-d.ensures))

pub returns-in-55 : goal.returns-in-55
returns-in-55 c = let args = c.args in
    decodes args.s.now args.here.at _ 0x37 c.byte_at.ensures c.in-55.is c.step_at-in-55.result (rw (c.step_at-in-55.ensures, c.operand-a.ensures))

pub returns-in-57 : goal.returns-in-57
returns-in-57 c = let args = c.args in
    decodes args.s.now args.here.at _ 0x39 c.byte_at.ensures c.in-57.is c.step_at-in-57.result (rw (c.step_at-in-57.ensures, c.operand-a.ensures, c.operand-b.ensures, c.operand-c.ensures))

pub returns-in_default : goal.returns-in_default
returns-in_default c = let args = c.args in
    rw (← c.byte_at.ensures) (sym (no_step c.byte_at.result (λ i. byte args.s.now (args.here.at + i)) (search rules)))
