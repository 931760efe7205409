-- what an opening would do
pub mod Openings
-- whether something is wrong
pub mod Verdicts
-- files that are sound
pub mod SoundFiles
-- what a check finds
pub mod Checked
-- what a check prints as text, as JSON, and in either form
pub mod Printed
pub mod PrintedJson
pub mod PrintedForms
-- checks that were printed, and what was written where not all could be
pub mod PrintedChecks
pub mod CutShort
-- what is cut off
pub mod Cuts
-- why something isn't printed
pub mod Faults
