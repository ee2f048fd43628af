use native.Mathlib.Omega.{arith}
use mathlib.Core.Path.{refl}
use Rattle.job_requests.specs.Codes.{row, codes, code_of}
use Rattle.job_requests.proofs.CodeLaws.{row_is, row-unknown}
use Rattle.job_requests.proofs.codes.code_of.Goals as goal

pub returns-in-1 : goal.returns-in-1
unfolding code_of codes row
returns-in-1 c = row_is _ 1 (omega arith) refl c.in-1.is c.row.ensures

pub returns-in-2 : goal.returns-in-2
unfolding code_of codes row
returns-in-2 c = row_is _ 2 (omega arith) refl c.in-2.is c.row-in-2.ensures

pub returns-in-3 : goal.returns-in-3
unfolding code_of codes row
returns-in-3 c = row_is _ 3 (omega arith) refl c.in-3.is c.row-in-3.ensures

pub returns-in-4 : goal.returns-in-4
unfolding code_of codes row
returns-in-4 c = row_is _ 4 (omega arith) refl c.in-4.is c.row-in-4.ensures

pub returns-in-5 : goal.returns-in-5
unfolding code_of codes row
returns-in-5 c = row_is _ 5 (omega arith) refl c.in-5.is c.row-in-5.ensures

pub returns-in-6 : goal.returns-in-6
unfolding code_of codes row
returns-in-6 c = row_is _ 6 (omega arith) refl c.in-6.is c.row-in-6.ensures

pub returns-in-7 : goal.returns-in-7
unfolding code_of codes row
returns-in-7 c = row_is _ 7 (omega arith) refl c.in-7.is c.row-in-7.ensures

pub returns-in-8 : goal.returns-in-8
unfolding code_of codes row
returns-in-8 c = row_is _ 8 (omega arith) refl c.in-8.is c.row-in-8.ensures

pub returns-in-9 : goal.returns-in-9
unfolding code_of codes row
returns-in-9 c = row_is _ 9 (omega arith) refl c.in-9.is c.row-in-9.ensures

pub returns-in-10 : goal.returns-in-10
unfolding code_of codes row
returns-in-10 c = row_is _ 10 (omega arith) refl c.in-10.is c.row-in-10.ensures

pub returns-in-11 : goal.returns-in-11
unfolding code_of codes row
returns-in-11 c = row_is _ 11 (omega arith) refl c.in-11.is c.row-in-11.ensures

pub returns-in-12 : goal.returns-in-12
unfolding code_of codes row
returns-in-12 c = row_is _ 12 (omega arith) refl c.in-12.is c.row-in-12.ensures

pub returns-in-13 : goal.returns-in-13
unfolding code_of codes row
returns-in-13 c = row_is _ 13 (omega arith) refl c.in-13.is c.row-in-13.ensures

pub returns-in-14 : goal.returns-in-14
unfolding code_of codes row
returns-in-14 c = row_is _ 14 (omega arith) refl c.in-14.is c.row-in-14.ensures

pub returns-in_default : goal.returns-in_default
returns-in_default c = row-unknown _ c.in_default.in_default-own.rest c.row-in_default.ensures
