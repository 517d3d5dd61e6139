pub mod EdgeRules
pub mod Ends
pub mod Firsts
pub mod Occupied
pub mod Paths
pub mod WhatBreaks
