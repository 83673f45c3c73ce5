-- What the bytes of a field that should hold a date say (01, Digits and dates).
-- Assumes nothing.
use Rattle.std.specs.Prelude.{ℕ, cond, ◌&&◌, List, length, eqb, Result, Ok, Err}
use Rattle.digits.specs.Digits.{is_digits, number_of}
use Rattle.calendar.specs.Calendar.{is_date}
use Rattle.calendar.specs.declared.DateFault.{DateFault}
use Rattle.calendar.specs.declared.DateFault.TheVariants.{NotDigits, NoDate}

-- a date as a number yyyymmdd, or why the field holds none
abbrev pub DateField : Type 0
DateField = Result ℕ DateFault

-- eight digits are read as a number yyyymmdd, which is a date or none
unfoldable pub date_field : List ℕ → DateField
date_field s = cond (eqb (length s) 8 && is_digits s) (cond (is_date (number_of s)) (Ok (number_of s)) (Err NoDate)) (Err NotDigits)
