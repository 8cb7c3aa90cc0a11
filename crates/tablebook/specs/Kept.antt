-- What a table book holds is sound.
use Rattle.std.specs.Prelude.{◌≡◌, ℕ, ◌<◌, ◌≤◌, List, [], length, slice_index_or, Some}
use Rattle.std.proofs.Common.{sym, subst, arith}
use Rattle.std.specs.List.{slice_get}
use Rattle.std.proofs.lemmas.List.{length-map}
use Rattle.fractions.specs.Fraction.{whole, NotLonger, Within}
use Rattle.checks.specs.Limits.{most_checks}
use Rattle.checks.specs.Model.{Check, Stands, SoundCheck, Sound}
use Rattle.tablebook.specs.Sheets.{Entry, Sheet, nowhere, figure, check_of, model_of, most_entries, most_figure, TableFits, EntryFits, Kept}
use Rattle.checks.proofs.Nth.{nth_inside, mapped_back}

-- the check of an entry at its place
pub entry_stands : (s : Sheet) (place : ℕ) (c : Check) → Stands (model_of s) place c → (e : Entry) × (slice_get s.entries place ≡ Some e) × (c ≡ check_of s.tables e)
entry_stands s place c stands = mapped_back (check_of s.tables) s.entries place c stands

within_figure : (n : ℕ) → n ≤ most_figure → Within (whole n)
within_figure n l = record { few_units = omega arith; parted = omega arith; coarse = omega arith }

whole_figures : (a b : ℕ) → a ≤ b → NotLonger (whole a) (whole b)
whole_figures a b l = omega arith

-- the length of each row of a table that fits
pub columns_of : (domains : ℕ) (rows : List (List ℕ)) → TableFits domains rows → (m : ℕ) → m < domains → length (slice_index_or rows m []) ≡ domains
columns_of domains rows t m l = (t.each_row m (subst (λ n. m < n) (sym t.row_count) l)).columns

figure_fits : (domains : ℕ) (rows : List (List ℕ)) → TableFits domains rows → (m n : ℕ) → m < domains → n < domains → figure rows m n ≤ most_figure
figure_fits domains rows t m n l k = (t.each_row m (subst (λ z. m < z) (sym t.row_count) l)).figures n (subst (λ z. n < z) (sym (columns_of domains rows t m l)) k)

sound_entry : (s : Sheet) → Kept s → (e : Entry) → EntryFits s.flops (length s.tables) e → SoundCheck s.flops s.domains (check_of s.tables e)
sound_entry s k e f =
    let t = k.fits.tables_fit e.table f.table_there in
    let law = k.lawful e.table f.table_there in
    record {
      start_there = f.start_there;
      end_there = f.end_there;
      within = λ m n a b. within_figure _ (figure_fits s.domains _ t m n a b);
      never_falls = λ m higher n a b d. whole_figures _ _ (law.never_falls m higher n a b d);
      never_rises = λ m n higher a b d. whole_figures _ _ (law.never_rises m n higher a b d);
    }

few : (n : ℕ) → n ≤ most_entries → n ≤ most_checks
few n l = omega arith

pub fits_there : (s : Sheet) → Kept s → (place : ℕ) (e : Entry) → slice_get s.entries place ≡ Some e → EntryFits s.flops (length s.tables) e
fits_there s k place e at = let p = nth_inside s.entries place e nowhere at in subst (EntryFits s.flops (length s.tables)) p.1 (k.fits.entries_fit place p.0)

pub kept_sound : (s : Sheet) → Kept s → Sound (model_of s)
kept_sound s k =
    let counts = k.fits.counts_fit in
    record {
      few_flops = counts.few_flops;
      some_domain = counts.some_domain;
      few_domains = counts.few_domains;
      few_checks = subst (λ n. n ≤ most_checks) (sym (length-map s.entries (check_of s.tables))) (few (length s.entries) counts.few_entries);
      floor_within = within_figure s.floor counts.floor_fits;
      each = λ place c stands. let p = entry_stands s place c stands in subst (SoundCheck s.flops s.domains) (sym p.2) (sound_entry s k p.0 (fits_there s k place p.0 p.1));
    }
